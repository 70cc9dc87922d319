use Rattle.std.proofs.Common.{All}
use Rattle.bench_calls.specs.Turns.{IsDone}
use Rattle.bench_calls.proofs.turns.meet_all.Given as goal

abbrev pub invariant-loop-other : goal.invariant-loop-other
invariant-loop-other l = record { pass : IsDone l.lock l.each l.pass; others : All (IsDone l.lock l.each) l.passes.items }

abbrev pub decreases-loop-other : goal.decreases-loop-other
decreases-loop-other l = goal.left-loop-other l
