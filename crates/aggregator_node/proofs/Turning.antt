-- Turns of a leaf table under a lock.
use Rattle.std.proofs.Common.{◌≡◌, ℕ, false, List, [], ◌∷◌, ◌++◌, length, drop, None, Some, Option, IfSome, Result, refl, sym, ap, ◌∙◌, subst, arith, inl, inr}
use mathlib.Core.List.{IsPrefix}
use Rattle.aggregator_node.specs.Turns.{IsIdle, NotTurned, Turned}
use Rattle.coalition_map.specs.Coalitions.{PlanNumbers}
use Rattle.disk_trait.specs.declared.disk.Pages as pages
use Rattle.disk_trait.specs.declared.faults.Faults as faults
use Rattle.leaf_table.specs.Entries.{OneLease}
use Rattle.leaf_table.specs.Leasing.{Burns, Leases}
use Rattle.leaf_table.specs.Leasing as leasing
use Rattle.leaf_table.specs.State.{SettlesTo, TableState}
use Rattle.leaf_table.specs.Table.{faults_of, plan_of, state_of}
use Rattle.leaf_table.specs.declared.faults.TableFault.{TableFault}
use Rattle.leaf_table.specs.declared.lease.Lease.{Lease}
use Rattle.leaf_table.specs.declared.table.Table.{Table}
use Rattle.leaf_table.specs.declared.table.TableName.{TableName}
use Rattle.leaf_table.proofs.Held.{holds}
use Rattle.aggregator_session.specs.Tables.{TableSeen, name_of}
use Rattle.lms_bytes.specs.declared.message.MessageId.{MessageId}
use Rattle.node_workers.proofs.Onward.{same-then}
use Rattle.node_workers.proofs.Prefixes.{prefix-is, prefix-then}
use Rattle.turn_lock.specs.Lock.{Lock}
use Rattle.turn_lock.specs.Pass.{DrawsOne, Gives, IsWornOut, SameDone, SameDrawn, SamePass, Seen, Takes}

-- the entries that a table has once its doubt is settled, and after leasing or burning, go on from those before
pub settles-on : (before settled : TableState) → SettlesTo before settled → IsPrefix before.entries settled.entries
settles-on before settled (inl same) = prefix-is before.entries settled.entries (sym (ap (λ (s : TableState). s.entries) same))
settles-on before settled (inr made) = (_, sym (ap (λ (s : TableState). s.entries) made.2))

more-on : (before settled : TableState) (lease : Lease) → SettlesTo before settled → IsPrefix before.entries (settled.entries ++ lease ∷ [])
more-on before settled lease s = prefix-then before.entries settled.entries (settled.entries ++ lease ∷ []) (settles-on before settled s) (lease ∷ [], refl)

pub leases-on : {plan : PlanNumbers} {members : List ℕ} {message : MessageId} {result : Result ℕ TableFault} (before after : TableState)
    → Leases plan before members message result after → IsPrefix before.entries after.entries
leases-on before after (leasing.no_coalition never) = prefix-is before.entries before.entries refl
leases-on before after (leasing.kept settled c leaf is s lease map) = settles-on before settled s
leases-on before after (leasing.made settled c leaf is s lease map) = more-on before settled _ s
leases-on before after (leasing.no_leaf settled c is s lease) = settles-on before settled s
leases-on before after (leasing.unsettled c is doubt) = prefix-is before.entries before.entries refl
leases-on before after (leasing.unwritten settled c leaf is s lease map) = settles-on before settled s
leases-on before after (leasing.damaged c a b doubted is doubt neither) = prefix-is before.entries before.entries refl

pub burns-on : {leaf : ℕ} {message : List ℕ} {by : ℕ} {result : Result (Unit {0}) TableFault} (before after : TableState)
    → Burns before leaf message by result after → IsPrefix before.entries after.entries
burns-on before after (leasing.kept settled s map) = settles-on before settled s
burns-on before after (leasing.made settled s map) = more-on before settled _ s
burns-on before after (leasing.unsettled doubt) = prefix-is before.entries before.entries refl
burns-on before after (leasing.unwritten settled s map) = settles-on before settled s
burns-on before after (leasing.damaged a b doubted doubt neither) = prefix-is before.entries before.entries refl

pub idle-again : (lock : Lock Lease TableName) (plan : PlanNumbers) (old new : Seen Lease TableName) → IsIdle lock plan old → SamePass old new → new.in_turn ≡ false
    → IsIdle lock plan new
idle-again lock plan old new is same idle =
    (same.lock ∙ is.0, idle, subst (λ (o : Option TableName). IfSome o (λ name. name.plan ≡ plan)) (sym same.name) is.2)

pub idle-given : (lock : Lock Lease TableName) (plan : PlanNumbers) (old mid new : Seen Lease TableName) → IsIdle lock plan old → SameDone old mid → SameDrawn mid new → new.in_turn ≡ false
    → IsIdle lock plan new
idle-given lock plan old mid new is done drawn idle = idle-again lock plan old new is (same-then old mid new done.same drawn.same) idle

pub took-gave : (lock : Lock Lease TableName) (old mid new : Seen Lease TableName) (before after : TableSeen)
    → Takes before.state.entries before.faults before.name old mid → DrawsOne lock old mid → SameDone old mid
    → Gives after.state.entries after.faults mid new → SameDrawn mid new → (before.faults ≡ 0 → before.state.doubt ≡ None) → Turned old new before after
took-gave lock old mid new before after takes draws done gives drawn sure = record {
  begins = takes.begins;
  reaches = takes.reaches;
  named = takes.named;
  sure = sure;
  log = gives.log;
  floor = gives.floor;
  rises = (let r = gives.rises in let s = done.rises in let t = takes.floor in omega (arith, r, s, t));
  own = gives.own ∙ (λ i. done.own i ++ drop (length (takes.log i)) after.state.entries);
  draws = (let p = draws.greatest in let q = takes.fresh in let d = draws.draws (omega (arith, p, q)) in let e = drawn.draws in omega (arith, d, e));
  greatest = (let p = draws.greatest in let q = drawn.greatest in omega (arith, p, q));
  fresh = (let p = takes.fresh in let q = drawn.greatest in omega (arith, p, q));
  same = same-then old mid new done.same drawn.same;
  joined = drawn.joined ∙ done.joined;
  idle = gives.turn;
}

-- a pass that got no turn
pub none-taken : (lock : Lock Lease TableName) (old new : Seen Lease TableName) → IsWornOut old new → DrawsOne lock old new → SameDone old new → NotTurned old new
none-taken lock old new out draws done = record {
  log = out.log;
  floor = out.floor;
  rises = done.rises;
  own = done.own;
  drawn = draws.draws;
  still = draws.still_worn;
  greatest = draws.greatest;
  worn = out.worn;
  same = done.same;
  joined = done.joined;
  idle = out.turn;
}

module _ {D : Type 0} {p : pages.Ghosts D} {f : faults.Ghosts D} where
  -- no entry is in doubt before the first fault
  pub sure : (table : Table D p f) → faults_of table ≡ 0 → (state_of table).doubt ≡ None
  sure table none = (holds table).cause none

  pub one_lease : (table : Table D p f) → OneLease (state_of table).entries
  one_lease table = (holds table).one_lease _ (inl refl)

  -- the plan of the table that was taken
  pub plan-of : (plan : PlanNumbers) (name : Option TableName) (table : Table D p f) → Some (name_of table) ≡ name → IfSome name (λ n. n.plan ≡ plan) → plan_of table ≡ plan
  plan-of plan name table named is = subst (λ (o : Option TableName). IfSome o (λ n. n.plan ≡ plan)) (sym named) is
