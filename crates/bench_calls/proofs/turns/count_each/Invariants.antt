use Rattle.std.proofs.Common.{◌≡◌, ◌+◌, ◌-◌, ◌^◌, ◌<◌, ◌≤◌, false}
use Rattle.bench_calls.proofs.turns.count_each.Given as goal

abbrev pub invariant-loop : goal.invariant-loop
invariant-loop g l = record {
  lock : l.pass.lock ≡ l.initial.pass.lock;
  idle : l.pass.in_turn ≡ false;
  joined : l.pass.joined ≡ l.initial.pass.joined;
  draws : l.pass.draws ≤ l.initial.pass.draws + l.counter;
  rises : l.pass.rises ≤ l.initial.pass.rises + l.counter;
  all : l.pass.floor < 2 ^ 64 - 1 → l.pass.rises ≡ l.initial.pass.rises + l.counter;
}
