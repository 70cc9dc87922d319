use Rattle.std.proofs.Common.{◌+◌, ◌-◌}
use Rattle.coalition_map.proofs.Unranking.{Unranking}
use Rattle.coalition_map.proofs.plan.Plan.members.Given as goal

abbrev pub invariant-trustees : goal.invariant-trustees
invariant-trustees l =
    Unranking l.self-inside.n l.self-inside.k l.c l.bits l.trustee l.wanted l.rest (l.self-inside.n + 1 - l.trustee)

abbrev pub decreases-trustees : goal.decreases-trustees
decreases-trustees l = l.self-inside.n + 1 - l.trustee
