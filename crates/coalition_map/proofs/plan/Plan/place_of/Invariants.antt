use Rattle.std.proofs.Common.{◌+◌, ◌-◌}
use Rattle.coalition_map.specs.Members.{member_numbers}
use Rattle.coalition_map.proofs.Ranking.{Ranking}
use Rattle.coalition_map.proofs.plan.Plan.place_of.Given as goal

abbrev pub invariant-trustees : goal.invariant-trustees
invariant-trustees l =
    Ranking l.self-inside.n l.self-inside.k (member_numbers l.members) l.bits l.trustee l.wanted l.number (l.self-inside.n + 1 - l.trustee)

abbrev pub decreases-trustees : goal.decreases-trustees
decreases-trustees l = l.self-inside.n + 1 - l.trustee
