-- A port of a net that only dials, and what was signed over it.
use Rattle.std.specs.Prelude.{◌≡◌, ◌≢◌, ◌++◌, ◌&&◌, ◌==◌, ℕ, Bool, List, [], ◌∷◌, drop, length, None}
use Rattle.std.specs.Prelude.{Result, Ok, Err, IfOk, IsTrue}
use Rattle.aggregator_session.specs.Desks.{DeskState, desk_state}
use Rattle.aggregator_session.specs.Runs.{CellsRead, reads_of}
use Rattle.aggregator_session.specs.declared.desk.Desk.{Desk}
use Rattle.aggregator_session.specs.declared.fault.SignFault.{SignFault}
use Rattle.aggregator_session.specs.declared.fault.SignFault.TheVariants.{Session}
use Rattle.coalition_map.specs.Coalitions.{PlanNumbers}
use Rattle.disk_trait.specs.Faults.{Rose}
use Rattle.disk_trait.specs.declared.disk.Pages as pages
use Rattle.disk_trait.specs.declared.faults.Faults as faults
use Rattle.aggregator_session.specs.Causes.{PortCauses}
use Rattle.aggregator_session.specs.Signing.{Signature, SignsLeased, ToSign}
use Rattle.aggregator_session.specs.Tables.{TableSeen}
use Rattle.lms_bytes.specs.declared.params.Params.{Params}
use Rattle.lms_verify.specs.Accepts.{AcceptsAt}
use Rattle.reference_value.specs.declared.cells.Cells as cells
use Rattle.session_core.specs.declared.faults.SessionFault.TheVariants.{Reference}
use Rattle.mask_prf.specs.Lengths.{leaves_length}
use Rattle.stream_io.specs.Net.{IsNewPort, NetState, PortState, SameNet}
use Rattle.stream_io.specs.Store.{RisesWhere}
use Rattle.tool_base.specs.Ending as ending
use Rattle.tool_base.specs.Ending.{Ending}
use Rattle.tool_sign.specs.Faults.{end_of_fault}

-- a net from one state to a later one
pub record NetRun : Type 0 where
  pub before : NetState
  pub after : NetState

abbrev pub over_net : NetState → NetState → NetRun
over_net before after = record { before = before; after = after }

-- what is signed: the desk, the reference as it is read, whether it gives what it has whenever it is asked, the members
-- and the message
pub record Signing : Type 0 where
  pub desk : DeskState
  pub reads : CellsRead
  pub exact : Bool
  pub members : List ℕ
  pub message : List ℕ

-- the same as the session's call has it
abbrev pub sign_of : Signing → ToSign
sign_of signing = record {
  desk = signing.desk;
  reads = signing.reads;
  members = signing.members;
  message = signing.message;
}

-- whether a reference gives what it has whenever it is asked: it tells all leaves, and its calls do not fail
abbrev pub is_exact : Bool → Bool → List ℕ → Params → PlanNumbers → Bool
is_exact told steady leaves params plan = told && steady && length leaves == leaves_length params plan

-- what is read of the file on these pages, as they stand before and after: its leaves, after a head of 32 bytes
abbrev pub reads_on : {V : Type 0} → pages.Ghosts V → faults.Ghosts V → V → V → CellsRead
reads_on p f old new = record {
  told = p.told old;
  leaves = drop 32 (p.reads old);
  before = f.count old;
  now = f.count new;
}

-- what is signed at this desk with these cells, as they stand before and after
abbrev pub signing_of : {C : Type 0} → cells.Ghosts C → faults.Ghosts C → Desk → C → C → List ℕ → List ℕ → Signing
signing_of c f desk old new members message = record {
  desk = desk_state desk;
  reads = reads_of c f old new;
  exact = is_exact (c.told old) (f.steady old) (c.leaves old) (c.set old) (c.plan old);
  members = members;
  message = message;
}

-- nothing was begun: no value of the reference was read, and no port was obtained
pub record IsIdle (signing : Signing) (net : NetRun) : Type 0 where
  pub reads : signing.reads.now ≡ signing.reads.before
  pub ports : SameNet net.before net.after

-- the reference is found unread only if its count rose, and never if it gives what it has
pub record IsUnread (signing : Signing) (outcome : Result Signature SignFault) : Type 0 where
  pub rises : outcome ≡ Err (Session Reference) → Rose signing.reads.before signing.reads.now
  pub succeeds : IsTrue signing.exact → outcome ≢ Err (Session Reference)

-- A port was made that only dials, the message was signed over it with a leaf of the table, and it was given back: the
-- net keeps it. A signature is accepted for the key, the message and the leaf.
pub record SignedOver (signing : Signing) (old new : TableSeen) (net : NetRun) (outcome : Result Signature SignFault)
    : Type 0 where
  pub port : PortState
  pub done : PortState
  pub made : IsNewPort net.before None port
  pub signs : SignsLeased (sign_of signing) old port new done outcome
  pub accepted : IfOk outcome (λ signature. AcceptsAt signing.desk.key signing.message signature.bytes signature.leaf)
  pub dialled : PortCauses signing.message port done outcome
  pub unread : IsUnread signing outcome
  pub kept : IsTrue net.before.told → net.after.kept ≡ net.before.kept ++ (done ∷ [])
  pub count : RisesWhere (done.count ≢ 0) net.before.count net.after.count
  pub port_count : RisesWhere (done.accept_count ≢ 0) net.before.port_count net.after.port_count

-- a signature, or the end by which the fault is told
abbrev pub answer_of : Result Signature SignFault → Result Signature Ending
answer_of (Ok signature) = Ok signature
answer_of (Err fault) = Err (end_of_fault fault)

-- internal: How signing over a net ends with a table that is loaded: no port was obtained and the table is as it was,
-- or the message was signed, or was not.
pub data NetEnds (signing : Signing) (same : Type 0) (old new : TableSeen) (net : NetRun)
    : Result Signature Ending → Type 0 where
  no_memory : same → IsIdle signing net → NetEnds signing same old new net (Err ending.NoMemory)
  no_port : same → IsIdle signing net → Rose net.before.port_count net.after.port_count
      → (IsTrue net.before.told → IsTrue net.before.steady → ⊥)
      → NetEnds signing same old new net (Err ending.NetFailed)
  signed : (outcome : Result Signature SignFault) → SignedOver signing old new net outcome
      → NetEnds signing same old new net (answer_of outcome)
