-- A message that is signed with a leaf of a table.
use Rattle.std.proofs.Common.{◌≡◌, ◌≤◌, ◌<◌, ◌^◌, ℕ, List, length, IfErr, IfOk, Option, None, Result, Ok, Err, refl, subst, sym, ap, ◌∙◌, arith}
use Rattle.std.specs.declared.alloc.Global.{Global}
use Rattle.std.specs.declared.vec.Vec.{Vec}
use Rattle.aggregator_session.specs.Causes.{PortCauses, ReferenceCauses}
use Rattle.aggregator_session.specs.Faults.{LostBy}
use Rattle.aggregator_session.specs.declared.fault.SignFault.TheVariants.{NoMemory, Session}
use Rattle.aggregator_session.specs.declared.fault.Why.{Why}
use Rattle.aggregator_session.specs.declared.fault.Why.TheVariants.{DialFailed, ReadFailed, WriteFailed}
use Rattle.aggregator_session.specs.declared.sign.Signed.{Signed}
use Rattle.reference_value.specs.declared.cells.Cells as cells
use Rattle.session_core.specs.declared.faults.SessionFault.TheVariants.{Reference}
use Rattle.aggregator_session.specs.declared.fault.SignFault.{SignFault}
use Rattle.disk_trait.specs.declared.disk.Pages as pages
use Rattle.disk_trait.specs.declared.faults.Faults as faults
use Rattle.coalition_map.specs.Coalitions.{PlanNumbers}
use Rattle.leaf_table.specs.Entries.{IsLeased, map_of}
use Rattle.leaf_table.specs.Leasing.{Leases}
use Rattle.leaf_table.specs.Table.{Enters, Stays, plan_of, state_of}
use Rattle.leaf_table.specs.declared.faults.TableFault.{TableFault}
use Rattle.leaf_table.specs.declared.table.Table.{Table}
use Rattle.aggregator_session.specs.Ended.{LeasedTo, RunsTo, last_of}
use Rattle.aggregator_session.specs.Signing.{Signature, SignsLeased, Spends, ToSign, leased, signed_with, spent_by}
use Rattle.aggregator_session.specs.Tables.{AsksLeaf, Entered, TableSeen, name_of, table_seen}
use Rattle.lms_bytes.specs.MessageId.{message_id, message_id_bytes}
use Rattle.lms_bytes.specs.declared.public_key.PublicKey.{PublicKey}
use Rattle.lms_verify.specs.Accepts.{AcceptsAt}
use Rattle.lms_bytes.specs.declared.message.MessageId.{MessageId}
use Rattle.session_core.specs.State.{State}
use Rattle.stream_io.specs.Net.{PortState}

module _ {D : Type 0} {p : pages.Ghosts D} {f : faults.Ghosts D} {old new : Table D p f} where
  names : Stays old new → name_of new ≡ name_of old
  names stays = let a = stays.plan in let b = stays.header in let c = stays.disk.told in let d = stays.disk.honest in let e = stays.disk.steady in cc

  pub entered-as : {R : Type 0} {result : Result R TableFault} → Enters old new result → Entered (table_seen old) (table_seen new) result
  entered-as enters = record { told = enters.told; succeeds = enters.succeeds; cause = enters.cause; name = names enters.stays }

  pub asks-as : {members : List ℕ} {id : MessageId} {result : Result ℕ TableFault} (message : List ℕ) → id ≡ message_id message → Leases (plan_of old) (state_of old) members id result (state_of new)
      → IfOk result (λ leaf. leaf < 2 ^ (plan_of new).h) → IfOk result (λ leaf. map_of (state_of new).entries leaf ≡ IsLeased (message_id_bytes id)) → Enters old new result
      → AsksLeaf (table_seen old) members (message_id message) result (table_seen new)
  asks-as {members} {id} {result} message is event within theirs enters = subst (λ (m : MessageId). AsksLeaf (table_seen old) members m result (table_seen new)) is (record {
    event = event;
    within = subst (λ (plan : PlanNumbers). IfOk result (λ leaf. leaf < 2 ^ plan.h)) enters.stays.plan within;
    leased = theirs;
    entered = entered-as enters;
  })

module _ {sign : ToSign} {before mid after : TableSeen} {port now : PortState} {leaf : ℕ} {id : MessageId} {result : Result (List ℕ) SignFault} {session : Option State} where
  pub leased-to : {end : Result Signature SignFault} {spent : Option ℕ} → end ≡ signed_with leaf result → length sign.message ≤ 16777216 → id ≡ message_id sign.message → AsksLeaf before sign.members (message_id sign.message) (Ok leaf) mid
      → RunsTo sign.desk sign.reads leaf sign.message port now result session → spent ≡ spent_by result → Spends mid leaf id spent after → LeasedTo sign before port after now end session
  leased-to is short named asks runs of spends = subst (λ (e : Result Signature SignFault). LeasedTo sign before port after now e session) (sym is) (record {
    signs = leased leaf mid after now result short asks runs.runs (subst (λ (m : MessageId). Spends mid leaf m (spent_by result) after) named (subst (λ (o : Option ℕ). Spends mid leaf id o after) of spends));
    session_is = runs.session_is;
  })

module _ {sign : ToSign} {before after : TableSeen} {port now : PortState} {end : Result Signature SignFault} {fault : SignFault} {session : Option State} where
  pub not-begun : end ≡ Err fault → session ≡ None → (signs : SignsLeased sign before port after now (Err fault)) → last_of signs ≡ None
      → LeasedTo sign before port after now end session
  not-begun is none signs last = subst (λ (e : Result Signature SignFault). LeasedTo sign before port after now e session) (sym is) (record { signs = signs; session_is = none ∙ sym last })

-- nobody was dialled
pub port-none : {V : Type 0} (message : List ℕ) (port : PortState) (result : Result V SignFault) → ((why : Why) → LostBy why result → ⊥) → PortCauses message port port result
port-none message port result none = record {
  dialled = λ lost. absurd (none DialFailed lost);
  unwritten = λ lost. absurd (none WriteFailed lost);
  unread = λ lost. absurd (none ReadFailed lost);
  reads = λ steady lost. none ReadFailed lost;
  writes = λ steady fits lost. none WriteFailed lost;
  onward = record { told = refl; steady = refl; place = refl; count = omega arith; accept_count = omega arith; room = omega arith };
  accepting = refl;
}

-- no cell was read
pub cells-none : {C V : Type 0} (c : cells.Ghosts C) (f : faults.Ghosts C) (own : C) (result : Result V SignFault) → (result ≡ Err (Session Reference) → ⊥) → ReferenceCauses c f own own result
cells-none c f own result none = record {
  rises = λ is. absurd (none is);
  succeeds = λ exact is. none is;
  stays = record { set = refl; plan = refl; told = refl; steady = refl; leaves = λ told. refl };
}

-- running out of memory is no fault of the reference
pub cells-refused : {C V : Type 0} (c : cells.Ghosts C) (f : faults.Ghosts C) (own : C)
    → ReferenceCauses {V = V} c f own own (Err NoMemory)
cells-refused c f own = cells-none c f own (Err NoMemory) (λ is. absurd (cc))

-- what came of a session is what comes of the message
module _ (outcome : Result (Vec ℕ Global) SignFault) where
  abbrev failed : SignFault → Result (Vec ℕ Global) SignFault
  failed fault = Err fault

  lost-back : (why : Why) (result : Result Signed SignFault) → IfErr result (λ fault. outcome ≡ Err fault) → LostBy why result → LostBy why outcome
  lost-back why (Ok signed) from lost = absurd lost
  lost-back why (Err fault) from lost = subst (λ (r : Result (Vec ℕ Global) SignFault). LostBy why r) (sym from) lost

  err-back : (fault : SignFault) (result : Result Signed SignFault) → IfErr result (λ fault. outcome ≡ Err fault) → result ≡ Err fault → outcome ≡ Err fault
  err-back fault (Ok signed) from is = absurd (cc)
  err-back fault (Err other) from is = let same : other ≡ fault = cc in from ∙ ap failed same

  pub port-signed : (message : List ℕ) (a b : PortState) (result : Result Signed SignFault) → IfErr result (λ fault. outcome ≡ Err fault) → PortCauses message a b outcome → PortCauses message a b result
  port-signed message a b result from p = record {
    dialled = λ lost. p.dialled (lost-back DialFailed result from lost);
    unwritten = λ lost. p.unwritten (lost-back WriteFailed result from lost);
    unread = λ lost. p.unread (lost-back ReadFailed result from lost);
    reads = λ steady lost. p.reads steady (lost-back ReadFailed result from lost);
    writes = λ steady fits lost. p.writes steady fits (lost-back WriteFailed result from lost);
    onward = p.onward;
    accepting = p.accepting;
  }

  pub cells-signed : {C : Type 0} (c : cells.Ghosts C) (f : faults.Ghosts C) (old new : C) (result : Result Signed SignFault) → IfErr result (λ fault. outcome ≡ Err fault)
      → ReferenceCauses c f old new outcome → ReferenceCauses c f old new result
  cells-signed c f old new result from r = record {
    rises = λ is. r.rises (err-back (Session Reference) result from is);
    succeeds = λ exact is. r.succeeds exact (err-back (Session Reference) result from is);
    stays = r.stays;
  }

module _ {D : Type 0} {p : pages.Ghosts D} {f : faults.Ghosts D} (a b c : Table D p f) where
  pub table-then : Stays a b → Stays b c → Stays a c
  table-then one two = record {
    plan = two.plan ∙ one.plan;
    header = two.header ∙ one.header;
    disk = record {
      told = two.disk.told ∙ one.disk.told;
      honest = two.disk.honest ∙ one.disk.honest;
      steady = two.disk.steady ∙ one.disk.steady;
      room = two.disk.room ∙ one.disk.room;
      count = omega (arith, one.disk.count, two.disk.count);
    };
  }

-- a signature is accepted if the bytes of the session are
pub signed-accepted : (outcome : Result (Vec ℕ Global) SignFault) (result : Result Signed SignFault) (key : PublicKey)
    (message : List ℕ) (leaf : ℕ) → IfOk result (λ signed. (outcome ≡ Ok signed.bytes) × (signed.leaf ≡ leaf))
    → IfOk outcome (λ bytes. AcceptsAt key message bytes.items leaf)
    → IfOk result (λ signed. AcceptsAt key message signed.bytes.items signed.leaf)
signed-accepted outcome (Ok signed) key message leaf of accepted =
    subst (λ (q : ℕ). AcceptsAt key message signed.bytes.items q) (sym of.1)
    (subst (λ (r : Result (Vec ℕ Global) SignFault). IfOk r (λ bytes. AcceptsAt key message bytes.items leaf)) of.0
    accepted)
signed-accepted outcome (Err fault) key message leaf of accepted = tt

pub none-accepted : (result : Result Signed SignFault) (key : PublicKey) (message : List ℕ) (fault : SignFault)
    → result ≡ Err fault → IfOk result (λ signed. AcceptsAt key message signed.bytes.items signed.leaf)
none-accepted (Ok signed) key message fault is = absurd (cc)
none-accepted (Err other) key message fault is = tt
