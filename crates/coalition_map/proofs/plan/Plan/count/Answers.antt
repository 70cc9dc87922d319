use Rattle.coalition_map.proofs.CoalitionLaws.{count_of-pos}
use Rattle.coalition_map.proofs.plan.Plan.count.Goals as goal

pub returns-clause-some : goal.returns-clause-some
returns-clause-some c = rw c.self.invariant.counted (count_of-pos _ c.self.invariant.plan)
