use Rattle.std.proofs.Common.{◌≡◌, ◌+◌, arith}
use Rattle.coalition_map.proofs.CoalitionLaws.{IsSubset-listed, Contains-subsets}
use Rattle.coalition_map.proofs.laws.all_are_listed.Goals as goal

pub returns : goal.returns
returns c = λ n k l. (
  IsSubset-listed n k l,
  λ h. let e : n + 1 ≡ 1 + n = omega arith in Contains-subsets 1 n k l (rw e at h),
)
