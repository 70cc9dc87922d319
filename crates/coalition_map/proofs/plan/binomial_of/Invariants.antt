use Rattle.std.proofs.Common.{◌≡◌}
use Rattle.coalition_map.specs.Coalitions.{binomial}
use Rattle.coalition_map.proofs.plan.binomial_of.Given as goal

abbrev pub invariant-chosen : goal.invariant-chosen
invariant-chosen l = l.ways ≡ binomial l.n l.i
