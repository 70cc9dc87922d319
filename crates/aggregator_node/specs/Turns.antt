-- Turns of a leaf table under a lock: what a pass has seen before and after, and the table that it met and gave back.
use Rattle.std.specs.Prelude.{◌≡◌, ◌≤◌, ◌<◌, ◌+◌, ◌-◌, ◌^◌, ◌++◌, false, length, drop, None, Some, Option, IfSome}
use Rattle.std.specs.Prelude.{IsSomeAnd, IsTrue}
use mathlib.Core.List.{IsPrefix}
use Rattle.coalition_map.specs.Coalitions.{PlanNumbers}
use Rattle.leaf_table.specs.declared.lease.Lease.{Lease}
use Rattle.leaf_table.specs.declared.table.TableName.{TableName}
use Rattle.aggregator_session.specs.Tables.{TableSeen}
use Rattle.turn_lock.specs.Lock.{Lock}
use Rattle.turn_lock.specs.Pass.{SamePass, Seen}

-- the pass is of this lock, round a table of this plan, and holds no turn
abbrev pub IsIdle : Lock Lease TableName → PlanNumbers → Seen Lease TableName → Type 0
IsIdle lock plan pass =
    (pass.lock ≡ lock) × (pass.in_turn ≡ false) × IfSome pass.name (λ name. name.plan ≡ plan)

-- the disk of the lock's table tells its content
abbrev pub TellsDisk : Option TableName → Type 0
TellsDisk name = IsSomeAnd name (λ name. IsTrue name.told)

-- the same, and the disk is also steady
abbrev pub HasSteadyDisk : Option TableName → Type 0
HasSteadyDisk name = IsSomeAnd name (λ name. IsTrue name.steady × IsTrue name.told)

-- A turn: the pass met a table that goes on from what it had seen, in which nothing is in doubt before the first fault,
-- and gave it back as another one. The log, the floor, the own rises and the own entries of the pass are what the turn
-- made of them.
pub record Turned (old new : Seen Lease TableName) (before after : TableSeen) : Type 0 where
  pub begins : IsPrefix old.log before.state.entries
  pub reaches : old.floor ≤ before.faults
  pub named : Some before.name ≡ old.name
  pub sure : before.faults ≡ 0 → before.state.doubt ≡ None
  pub log : new.log ≡ after.state.entries
  pub floor : new.floor ≡ after.faults
  pub rises : new.rises ≡ old.rises + (after.faults - before.faults)
  pub own : new.own ≡ old.own ++ drop (length before.state.entries) after.state.entries
  pub draws : new.draws ≡ old.draws + 1
  pub greatest : old.greatest ≤ new.greatest
  pub fresh : new.greatest < 2 ^ 62
  pub same : SamePass old new
  pub joined : new.joined ≡ old.joined
  pub idle : new.in_turn ≡ false

-- no turn, since the pass has drawn a ticket of 2^62 or more
pub record NotTurned (old new : Seen Lease TableName) : Type 0 where
  pub log : new.log ≡ old.log
  pub floor : new.floor ≡ old.floor
  pub rises : new.rises ≡ old.rises
  pub own : new.own ≡ old.own
  pub drawn : old.greatest < 2 ^ 62 → new.draws ≡ old.draws + 1
  pub still : 2 ^ 62 ≤ old.greatest → new ≡ old
  pub greatest : old.greatest ≤ new.greatest
  pub worn : 2 ^ 62 ≤ new.greatest
  pub same : SamePass old new
  pub joined : new.joined ≡ old.joined
  pub idle : new.in_turn ≡ false
