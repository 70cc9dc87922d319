-- A message that is signed over a table under a lock.
use Rattle.std.proofs.Common.{◌≡◌, ◌⊎◌, inl, inr, ◌≤◌, ◌<◌, ◌^◌, ℕ, List, length, IfErr, IfOk, Option, Result, Ok, Err, refl, subst, sym}
use Rattle.aggregator_session.specs.declared.fault.SignFault.{SignFault}
use Rattle.aggregator_session.specs.declared.fault.SignFault.TheVariants.{Session, Table as TableFailed, Worn}
use Rattle.aggregator_node.specs.Signing.{Burning, LeaseTurn, SignsInTurns, asked, leased, no_turn, not_leased}
use Rattle.coalition_map.specs.Coalitions.{PlanNumbers}
use Rattle.disk_trait.specs.declared.disk.Pages as pages
use Rattle.disk_trait.specs.declared.faults.Faults as faults
use Rattle.leaf_table.specs.Entries.{IsLeased, map_of}
use Rattle.leaf_table.specs.Leasing.{Leases}
use Rattle.leaf_table.specs.Table.{Enters, plan_of, state_of}
use Rattle.leaf_table.specs.declared.faults.TableFault.{TableFault}
use Rattle.leaf_table.specs.declared.lease.Lease.{Lease}
use Rattle.leaf_table.specs.declared.table.Table.{Table}
use Rattle.leaf_table.specs.declared.table.TableName.{TableName}
use Rattle.aggregator_session.specs.Causes.{PortCauses, ReferenceCauses}
use Rattle.aggregator_session.specs.Signing.{RunsOn, Signature, ToSign, signed_with, spent_by}
use Rattle.aggregator_session.specs.Tables.{AsksLeaf, table_seen}
use Rattle.aggregator_session.proofs.Signing.{cells-none, entered-as, port-none}
use Rattle.lms_bytes.specs.MessageId.{message_id, message_id_bytes}
use Rattle.lms_bytes.specs.declared.message.MessageId.{MessageId}
use Rattle.reference_value.specs.declared.cells.Cells as cells
use Rattle.session_core.specs.declared.faults.SessionFault.TheVariants.{Reference}
use Rattle.stream_io.specs.Net.{PortState}
use Rattle.turn_lock.specs.Pass.{Seen}

module _ {D : Type 0} {p : pages.Ghosts D} {f : faults.Ghosts D} {old new : Table D p f} where
  pub asks : {members : List ℕ} {id : MessageId} {result : Result ℕ TableFault} → Leases (plan_of old) (state_of old) members id result (state_of new)
      → IfOk result (λ leaf. leaf < 2 ^ (plan_of new).h) → IfOk result (λ leaf. map_of (state_of new).entries leaf ≡ IsLeased (message_id_bytes id)) → Enters old new result
      → AsksLeaf (table_seen old) members id result (table_seen new)
  asks {members} {id} {result} event within theirs enters = record {
    event = event;
    within = subst (λ (plan : PlanNumbers). IfOk result (λ leaf. leaf < 2 ^ plan.h)) enters.stays.plan within;
    leased = theirs;
    entered = entered-as enters;
  }

-- a turn for a lease fails because of a worn pass or because of the table
turn-fault : (members : List ℕ) (message : MessageId) (old new : Seen Lease TableName) (result : Result ℕ SignFault) → LeaseTurn members message old new result
    → IfErr result (λ fault. (fault ≡ Worn) ⊎ ((why : TableFault) × (fault ≡ TableFailed why)))
turn-fault members message old new result (no_turn t) = inl refl
turn-fault members message old new result (asked before after (Ok leaf) t a) = tt
turn-fault members message old new result (asked before after (Err why) t a) = inr (why, refl)

none-dialled : {V : Type 0} (message : List ℕ) (state : PortState) (fault : SignFault) → (fault ≡ Worn) ⊎ ((why : TableFault) × (fault ≡ TableFailed why)) → PortCauses {V = V} message state state (Err fault)
none-dialled {V} message state fault (inl is) = subst (λ (x : SignFault). PortCauses {V = V} message state state (Err x)) (sym is) (port-none message state (Err Worn) (λ why lost. lost))
none-dialled {V} message state fault (inr is) = subst (λ (x : SignFault). PortCauses {V = V} message state state (Err x)) (sym is.1) (port-none message state (Err (TableFailed is.0)) (λ why lost. lost))

never-worn : {V : Type 0} → ◌≡◌ {A = Result V SignFault} (Err Worn) (Err (Session Reference)) → ⊥
never-worn is = absurd (cc)

never-table : {V : Type 0} (why : TableFault) → ◌≡◌ {A = Result V SignFault} (Err (TableFailed why)) (Err (Session Reference)) → ⊥
never-table why is = absurd (cc)

none-read : {C V : Type 0} (c : cells.Ghosts C) (f : faults.Ghosts C) (old : C) (fault : SignFault) → (fault ≡ Worn) ⊎ ((why : TableFault) × (fault ≡ TableFailed why)) → ReferenceCauses {V = V} c f old old (Err fault)
none-read {C} {V} c f old fault (inl is) = subst (λ (x : SignFault). ReferenceCauses {V = V} c f old old (Err x)) (sym is) (cells-none c f old (Err Worn) never-worn)
none-read {C} {V} c f old fault (inr is) = subst (λ (x : SignFault). ReferenceCauses {V = V} c f old old (Err x)) (sym is.1) (cells-none c f old (Err (TableFailed is.0)) (never-table is.0))

module _ {members : List ℕ} {message : MessageId} {old new : Seen Lease TableName} {fault : SignFault} where
  pub port-of : {V : Type 0} {bytes : List ℕ} (state : PortState) → LeaseTurn members message old new (Err fault) → PortCauses {V = V} bytes state state (Err fault)
  port-of {V} {bytes} state turn = none-dialled bytes state fault (turn-fault members message old new (Err fault) turn)

  pub cells-of : {C V : Type 0} (c : cells.Ghosts C) (f : faults.Ghosts C) (cells : C) → LeaseTurn members message old new (Err fault) → ReferenceCauses {V = V} c f cells cells (Err fault)
  cells-of c f cells turn = none-read c f cells fault (turn-fault members message old new (Err fault) turn)

module _ {sign : ToSign} {old new : Seen Lease TableName} {port : PortState} {id : MessageId} where
  pub refused-as : {fault : SignFault} → length sign.message ≤ 16777216 → sign.reads.now ≡ sign.reads.before → id ≡ message_id sign.message → LeaseTurn sign.members id old new (Err fault)
      → SignsInTurns sign old port new port (Err fault)
  refused-as {fault} short unread named turn = not_leased new fault short unread (subst (λ (m : MessageId). LeaseTurn sign.members m old new (Err fault)) named turn)

module _ {sign : ToSign} {old mid new : Seen Lease TableName} {port now : PortState} {leaf : ℕ} {id : MessageId} {result : Result (List ℕ) SignFault} where
  pub leased-as : {end : Result Signature SignFault} {spent : Option ℕ} → end ≡ signed_with leaf result → length sign.message ≤ 16777216 → id ≡ message_id sign.message → LeaseTurn sign.members id old mid (Ok leaf)
      → RunsOn sign.desk sign.reads leaf sign.message port now result → spent ≡ spent_by result → Burning mid new leaf id spent → SignsInTurns sign old port new now end
  leased-as is short named turn runs of burns = subst (λ (e : Result Signature SignFault). SignsInTurns sign old port new now e) (sym is)
      (leased leaf mid new now result short (subst (λ (m : MessageId). LeaseTurn sign.members m old mid (Ok leaf)) named turn) runs
      (subst (λ (m : MessageId). Burning mid new leaf m (spent_by result)) named (subst (λ (o : Option ℕ). Burning mid new leaf id o) of burns)))
