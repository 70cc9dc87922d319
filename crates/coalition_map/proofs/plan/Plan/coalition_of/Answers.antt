use Rattle.std.proofs.lemmas.Nat.{mod_below}
use Rattle.coalition_map.proofs.CoalitionLaws.{count_of-pos}
use Rattle.coalition_map.proofs.plan.Plan.coalition_of.Goals as goal

pub nonzero_rem-result : goal.nonzero_rem-result
nonzero_rem-result c = rw c.self.invariant.counted (count_of-pos _ c.self.invariant.plan)

pub returns-clause-within : goal.returns-clause-within
returns-clause-within c =
    rw (← c.self.view_is, c.self.invariant.counted) (mod_below _ _ (count_of-pos _ c.self.invariant.plan))
