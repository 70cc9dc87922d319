use Rattle.std.proofs.Common.{◌≡◌, false}
use Rattle.tests_state.proofs.turns.add_each.Given as goal

abbrev pub invariant-loop-i : goal.invariant-loop-i
invariant-loop-i g l = (l.pass.lock ≡ l.lock) × (l.pass.in_turn ≡ false)
