use Rattle.std.proofs.Common.{◌≡◌, false, All}
use Rattle.tests_state.proofs.turns.meet_all.Given as goal

abbrev pub invariant-loop-other : goal.invariant-loop-other
invariant-loop-other l = record {
  joined : (l.joined.lock ≡ l.lock) × (l.joined.in_turn ≡ false);
  others : All (λ p. (p.lock ≡ l.lock) × (p.in_turn ≡ false)) l.passes.items;
}

abbrev pub decreases-loop-other : goal.decreases-loop-other
decreases-loop-other l = goal.left-loop-other l
