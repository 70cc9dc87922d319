-- The fields of a plan can be got back from it. The proof stands with the definitions, since the toolchain requires
-- what a type's model names to be among them.
use Rattle.std.specs.Prelude.{◌≡◌}
use Rattle.std.proofs.Common.{refl}
use Rattle.coalition_map.specs.declared.plan.Plan.TheInside.{Inside}
use Rattle.coalition_map.specs.Coalitions.{PlanNumbers, count_of, IsPlan}

-- the numbers of a plan's fields
abbrev pub numbers : Inside → PlanNumbers
numbers p = record { n = p.n; k = p.k; h = p.h }

-- the fields of a plan with these numbers
abbrev pub fields : PlanNumbers → Inside
fields p = record { n = p.n; k = p.k; h = p.h; count = count_of p }

-- what is true of each plan's fields
pub record IsSound (p : Inside) : Type 0 where
  pub plan : IsPlan (numbers p)
  pub counted : p.count ≡ count_of (numbers p)

pub fields-numbers : (p : Inside) → IsSound p → fields (numbers p) ≡ p
fields-numbers p sound = rw sound.counted refl
