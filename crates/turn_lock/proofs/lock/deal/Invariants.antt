use Rattle.std.proofs.Common.{◌≡◌, ◌+◌, ◌≤◌, [], All, vec_len, vec_capacity}
use Rattle.turn_lock.specs.Known.{starting, lock_of}
use Rattle.turn_lock.specs.Pass.{first_pass}
use Rattle.turn_lock.proofs.lock.deal.Given as goal

abbrev pub invariant-loop : goal.invariant-loop
invariant-loop g l =
    let o = l.initial.seat.me.0.opening in record {
      table : l.seat.table_id ≡ l.initial.seat.table_id;
      left : l.seat.me ≡ (record (starting o) { parts = l.seat.me.0.parts }, []);
      parts : l.seat.me.0.parts + l.counter ≡ l.count + 1;
      count : vec_len l.passes + 1 ≡ l.counter;
      room : l.count ≤ vec_capacity l.passes;
      dealt : All (λ p. p ≡ first_pass (lock_of l.initial.seat.table_id o)) l.passes.items;
    }
