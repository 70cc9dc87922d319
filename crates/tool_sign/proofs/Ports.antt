-- What a session says about a port and about the reference, by its outcome.
use Rattle.std.proofs.Common.{◌≡◌, ℕ, List, IfOk, Result, Ok, Err, ap}
use Rattle.aggregator_session.specs.Desks.{DeskState}
use Rattle.aggregator_session.specs.Runs.{reads_of}
use Rattle.aggregator_session.specs.declared.fault.SignFault.{SignFault}
use Rattle.aggregator_session.specs.declared.fault.SignFault.TheVariants.{Session}
use Rattle.disk_trait.specs.declared.faults.Faults as faults
use Rattle.aggregator_session.specs.Causes.{PortCauses, ReferenceCauses}
use Rattle.aggregator_session.specs.Signing.{signature_in}
use Rattle.aggregator_session.specs.declared.sign.Signed.{Signed}
use Rattle.lms_bytes.specs.declared.public_key.PublicKey.{PublicKey}
use Rattle.lms_verify.specs.Accepts.{AcceptsAt}
use Rattle.reference_value.specs.declared.cells.Cells as cells
use Rattle.session_core.specs.declared.faults.SessionFault.TheVariants.{Reference}
use Rattle.stream_io.specs.Net.{PortState}
use Rattle.tool_sign.proofs.Exacts.{exact-parts}
use Rattle.tool_sign.specs.Ports.{IsUnread, is_exact}

pub causes_as : (message : List ℕ) (before now : PortState) (result : Result Signed SignFault) → PortCauses message before now result → PortCauses message before now (signature_in result)
causes_as message before now (Ok signed) causes = record { dialled = causes.dialled; unwritten = causes.unwritten; unread = causes.unread; reads = causes.reads; writes = causes.writes; onward = causes.onward; accepting = causes.accepting }
causes_as message before now (Err fault) causes = record { dialled = causes.dialled; unwritten = causes.unwritten; unread = causes.unread; reads = causes.reads; writes = causes.writes; onward = causes.onward; accepting = causes.accepting }

pub accepted_as : (key : PublicKey) (message : List ℕ) (result : Result Signed SignFault) → IfOk result (λ signed. AcceptsAt key message signed.bytes.items signed.leaf)
    → IfOk (signature_in result) (λ signature. AcceptsAt key message signature.bytes signature.leaf)
accepted_as key message (Ok signed) accepted = accepted
accepted_as key message (Err fault) accepted = tt

abbrev unread : Result Signed SignFault
unread = Err (Session Reference)

as_unread : (result : Result Signed SignFault) → signature_in result ≡ Err (Session Reference) → result ≡ unread
as_unread (Ok signed) is = absurd (cc)
as_unread (Err fault) is = let same : fault ≡ Session Reference = cc in ap Err same

module _ {C : Type 0} (c : cells.Ghosts C) (f : faults.Ghosts C) (old new : C) (desk : DeskState) (members message : List ℕ) where
  pub unread_as : (result : Result Signed SignFault) → ReferenceCauses c f old new result
      → IsUnread (record { desk = desk; reads = reads_of c f old new; exact = is_exact (c.told old) (f.steady old) (c.leaves old) (c.set old) (c.plan old); members = members; message = message }) (signature_in result)
  unread_as result causes = record {
    rises = λ is. causes.rises (as_unread result is);
    succeeds = λ exact is.
        let parts = exact-parts (c.told old) (f.steady old) (c.leaves old) (c.set old) (c.plan old) exact in
        causes.succeeds (record { steady = parts.1; told = parts.0; whole = parts.2 }) (as_unread result is);
  }
