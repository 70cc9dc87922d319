use Rattle.std.proofs.Common.{◌≤◌, ◌<◌, ◌+◌, arith}
use Rattle.std.proofs.lemmas.List.Elements.{All-weaker}
use Rattle.coalition_map.specs.Coalitions.{coalition}
use Rattle.coalition_map.proofs.CoalitionLaws.{IsSubset-coalition}
use Rattle.coalition_map.proofs.MemberLaws.{All-from_IsAscendingIn, IsStrictlyIncreasing-from_IsAscendingIn}
use Rattle.coalition_map.proofs.laws.members_of_coalition.Goals as goal

pub returns-clause-size : goal.returns-clause-size
returns-clause-size c = λ p c' h. (IsSubset-coalition p c' h).size

pub returns-clause-range : goal.returns-clause-range
returns-clause-range c = λ p c' h.
    All-weaker (λ t. (1 ≤ t) × (t < p.n + 1)) (λ t. (1 ≤ t) × (t ≤ p.n)) (λ t in'. (in'.0, omega (arith, in'.1)))
    (coalition p c') (All-from_IsAscendingIn 1 (p.n + 1) (coalition p c') (IsSubset-coalition p c' h).ascending)

pub returns-clause-order : goal.returns-clause-order
returns-clause-order c = λ p c' h.
    IsStrictlyIncreasing-from_IsAscendingIn 1 (p.n + 1) (coalition p c') (IsSubset-coalition p c' h).ascending
