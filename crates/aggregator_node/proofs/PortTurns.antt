-- What turns and sessions move forward, message by message.
use Rattle.std.proofs.Common.{◌≡◌, ◌+◌, ◌^◌, ◌≤◌, ℕ, List, Option, Result, Ok, Err, IfErr, refl, sym, ap, ◌∙◌, subst, arith}
use mathlib.Core.List.{IsPrefix}
use mathlib.Core.Logic.{dite}
use native.Mathlib.Decide.{dec_le}
use Rattle.aggregator_session.specs.Desks.{DeskState}
use Rattle.aggregator_session.specs.Runs.{CellsRead}
use Rattle.aggregator_session.specs.declared.fault.SignFault.{SignFault}
use Rattle.aggregator_session.specs.declared.fault.SignFault.TheVariants.{Table, Worn}
use Rattle.aggregator_node.specs.Logs.{DiskFailed}
use Rattle.aggregator_node.specs.Signing.{Burning, LeaseTurn, SignsInTurns}
use Rattle.aggregator_node.specs.Signing as signing
use Rattle.aggregator_node.specs.Turns.{NotTurned, Turned}
use Rattle.aggregator_node.proofs.Showing.{failed-by, grows, rises-on}
use Rattle.aggregator_node.proofs.Turning.{burns-on, leases-on}
use Rattle.leaf_table.specs.declared.faults.TableFault.{TableFault}
use Rattle.leaf_table.specs.declared.faults.TableFault.TheVariants.{Device}
use Rattle.leaf_table.specs.declared.lease.Lease.{Lease}
use Rattle.leaf_table.specs.declared.table.TableName.{TableName}
use Rattle.aggregator_session.specs.Signing.{IsEnd, RunsOn, Signature, ToSign, signed_with}
use Rattle.aggregator_session.specs.Signing as sessions
use Rattle.aggregator_session.specs.Tables.{Entered, TableSeen}
use Rattle.lms_bytes.specs.declared.message.MessageId.{MessageId}
use Rattle.stream_io.specs.Net.{PortState}
use Rattle.node_workers.proofs.Prefixes.{prefix-is, prefix-then}
use Rattle.turn_lock.specs.Pass.{SamePass, Seen}

-- a pass went onward, and drew at most this many tickets
pub record Steps (old new : Seen Lease TableName) (tickets : ℕ) : Type 0 where
  pub begins : IsPrefix old.log new.log
  pub floor : old.floor ≤ new.floor
  pub rises : old.rises ≤ new.rises
  pub draws : new.draws ≤ old.draws + tickets
  pub greatest : old.greatest ≤ new.greatest
  pub same : SamePass old new
  pub joined : new.joined ≡ old.joined

pub steps-none : (pass : Seen Lease TableName) (tickets : ℕ) → Steps pass pass tickets
steps-none pass tickets = record {
  begins = prefix-is pass.log pass.log refl;
  floor = omega arith;
  rises = omega arith;
  draws = omega arith;
  greatest = omega arith;
  same = record { lock = refl; name = refl };
  joined = refl;
}

pub steps-then : (old mid new : Seen Lease TableName) (tickets more : ℕ) → Steps old mid tickets → Steps mid new more → Steps old new (tickets + more)
steps-then old mid new tickets more a b = record {
  begins = prefix-then old.log mid.log new.log a.begins b.begins;
  floor = (let p = a.floor in let q = b.floor in omega (arith, p, q));
  rises = (let p = a.rises in let q = b.rises in omega (arith, p, q));
  draws = (let p = a.draws in let q = b.draws in omega (arith, p, q));
  greatest = (let p = a.greatest in let q = b.greatest in omega (arith, p, q));
  same = record { lock = b.same.lock ∙ a.same.lock; name = b.same.name ∙ a.same.name };
  joined = b.joined ∙ a.joined;
}

steps-turned : {R : Type 0} {result : Result R TableFault} (old new : Seen Lease TableName) (before after : TableSeen) → Turned old new before after → Entered before after result
    → IsPrefix before.state.entries after.state.entries → Steps old new 1
steps-turned old new before after t e on = record {
  begins = subst (IsPrefix old.log) (sym t.log) (prefix-then old.log before.state.entries after.state.entries t.begins on);
  floor = grows t e;
  rises = rises-on t e;
  draws = (let d = t.draws in omega (arith, d));
  greatest = t.greatest;
  same = t.same;
  joined = t.joined;
}

steps-unturned : (old new : Seen Lease TableName) → NotTurned old new → Steps old new 1
steps-unturned old new t = record {
  begins = prefix-is old.log new.log (sym t.log);
  floor = (let f = t.floor in omega (arith, f));
  rises = (let r = t.rises in omega (arith, r));
  draws = dite (dec_le (2 ^ 62) old.greatest)
      (λ worn. let still = ap (λ (p : Seen Lease TableName). p.draws) (t.still worn) in omega (arith, still))
      (λ fresh. let drawn = t.drawn (omega (arith, fresh)) in omega (arith, drawn));
  greatest = t.greatest;
  same = t.same;
  joined = t.joined;
}

steps-leased : (members : List ℕ) (message : MessageId) (old new : Seen Lease TableName) (result : Result ℕ SignFault) → LeaseTurn members message old new result → Steps old new 1
steps-leased members message old new result (signing.no_turn t) = steps-unturned old new t
steps-leased members message old new result (signing.asked before after answer t a) = steps-turned old new before after t a.entered (leases-on before.state after.state a.event)

steps-burnt : (old new : Seen Lease TableName) (leaf : ℕ) (message : MessageId) (spent : Option ℕ) → Burning old new leaf message spent → Steps old new 1
steps-burnt old new leaf message spent (signing.not_spent same) = subst (λ (p : Seen Lease TableName). Steps old p 1) (sym same) (steps-none old 1)
steps-burnt old new leaf message spent (signing.no_turn member t) = steps-unturned old new t
steps-burnt old new leaf message spent (signing.asked member before after t a) = steps-turned old new before after t a.entered (burns-on before.state after.state a.event)

-- a turn for a lease that fails because of the disk, or gets no turn
lease-device : (members : List ℕ) (message : MessageId) (old new : Seen Lease TableName) (result : Result ℕ SignFault) → LeaseTurn members message old new result
    → result ≡ Err (Table Device) → DiskFailed old new
lease-device members message old new result (signing.no_turn t) is = absurd (cc)
lease-device members message old new result (signing.asked before after (Ok leaf) t a) is = absurd (cc)
lease-device members message old new result (signing.asked before after (Err why) t a) is =
    let same : why ≡ Device = cc in failed-by t a.entered (ap Err same)

lease-worn : (members : List ℕ) (message : MessageId) (old new : Seen Lease TableName) (result : Result ℕ SignFault) → LeaseTurn members message old new result
    → result ≡ Err Worn → 2 ^ 62 ≤ new.greatest
lease-worn members message old new result (signing.no_turn t) is = t.worn
lease-worn members message old new result (signing.asked before after (Ok leaf) t a) is = absurd (cc)
lease-worn members message old new result (signing.asked before after (Err why) t a) is = absurd (cc)

-- no session ends because of the table or of a worn pass
run-ends : (desk : DeskState) (reads : CellsRead) (leaf : ℕ) (message : List ℕ) (port now : PortState) (result : Result (List ℕ) SignFault) → RunsOn desk reads leaf message port now result
    → IfErr result (IsEnd leaf)
run-ends desk reads leaf message port now result (sessions.not_started unread) = tt
run-ends desk reads leaf message port now result (sessions.ran after last end run ends) = ends

run-count : (desk : DeskState) (reads : CellsRead) (leaf : ℕ) (message : List ℕ) (port now : PortState) (result : Result (List ℕ) SignFault) → RunsOn desk reads leaf message port now result
    → reads.before ≤ reads.now
run-count desk reads leaf message port now result (sessions.not_started unread) = omega (arith, unread)
run-count desk reads leaf message port now result (sessions.ran after last end run ends) = run.later

never-table : (leaf : ℕ) (why : TableFault) (result : Result (List ℕ) SignFault) → IfErr result (IsEnd leaf) → signed_with leaf result ≡ Err (Table why) → ⊥
never-table leaf why (Ok bytes) ends is = absurd (cc)
never-table leaf why (Err fault) ends is = let same : fault ≡ Table why = cc in subst (IsEnd leaf) same ends

never-worn : (leaf : ℕ) (result : Result (List ℕ) SignFault) → IfErr result (IsEnd leaf) → signed_with leaf result ≡ Err Worn → ⊥
never-worn leaf (Ok bytes) ends is = absurd (cc)
never-worn leaf (Err fault) ends is = let same : fault ≡ Worn = cc in subst (IsEnd leaf) same ends

module _ (sign : ToSign) where
  pub signs-steps : (old new : Seen Lease TableName) (port now : PortState) (outcome : Result Signature SignFault)
      → SignsInTurns sign old port new now outcome → Steps old new 2
  signs-steps old new port now outcome (signing.too_long long unread) = steps-none old 2
  signs-steps old new port now outcome (signing.not_leased after fault short unread turn) =
      steps-then old new new 1 1 (steps-leased sign.members _ old new (Err fault) turn) (steps-none new 1)
  signs-steps old new port now outcome (signing.leased leaf mid after last result short turn runs burns) =
      steps-then old mid new 1 1 (steps-leased sign.members _ old mid (Ok leaf) turn) (steps-burnt mid new leaf _ _ burns)

  pub signs-count : (old new : Seen Lease TableName) (port now : PortState) (outcome : Result Signature SignFault)
      → SignsInTurns sign old port new now outcome → sign.reads.before ≤ sign.reads.now
  signs-count old new port now outcome (signing.too_long long unread) = omega (arith, unread)
  signs-count old new port now outcome (signing.not_leased after fault short unread turn) = omega (arith, unread)
  signs-count old new port now outcome (signing.leased leaf mid after last result short turn runs burns) = run-count sign.desk sign.reads leaf sign.message port now result runs

  pub signs-device : (old new : Seen Lease TableName) (port now : PortState) (outcome : Result Signature SignFault)
      → SignsInTurns sign old port new now outcome → outcome ≡ Err (Table Device) → DiskFailed old new
  signs-device old new port now outcome (signing.too_long long unread) is = absurd (cc)
  signs-device old new port now outcome (signing.not_leased after fault short unread turn) is =
      let same : fault ≡ Table Device = cc in lease-device sign.members _ old new (Err fault) turn (ap Err same)
  signs-device old new port now outcome (signing.leased leaf mid after last result short turn runs burns) is =
      absurd (never-table leaf Device result (run-ends sign.desk sign.reads leaf sign.message port now result runs) is)

  pub signs-worn : (old new : Seen Lease TableName) (port now : PortState) (outcome : Result Signature SignFault)
      → SignsInTurns sign old port new now outcome → outcome ≡ Err Worn → 2 ^ 62 ≤ new.greatest
  signs-worn old new port now outcome (signing.too_long long unread) is = absurd (cc)
  signs-worn old new port now outcome (signing.not_leased after fault short unread turn) is =
      let same : fault ≡ Worn = cc in lease-worn sign.members _ old new (Err fault) turn (ap Err same)
  signs-worn old new port now outcome (signing.leased leaf mid after last result short turn runs burns) is =
      absurd (never-worn leaf result (run-ends sign.desk sign.reads leaf sign.message port now result runs) is)
