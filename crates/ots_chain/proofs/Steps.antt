-- How a chain goes on.
use Rattle.std.proofs.Common.{◌≡◌, ℕ, suc, ◌+◌, ◌-◌, ◌≤◌, List, refl, arith}
use Rattle.lms_bytes.specs.declared.params.Params.{Params}
use Rattle.ots_chain.specs.Chains.{steps, step}

pub steps_none : (params : Params) (id : List ℕ) (q i from : ℕ) (x : List ℕ) → steps params id q i from (from - from) x ≡ x
unfolding steps
steps_none params id q i from x = let none : from - from ≡ 0 = omega arith in rw none refl

pub steps_more : (params : Params) (id : List ℕ) (q i from j : ℕ) (x : List ℕ) → from ≤ j
    → steps params id q i from (j + 1 - from) x ≡ step params id q i j (steps params id q i from (j - from) x)
unfolding steps
steps_more params id q i from j x h =
    let next : j + 1 - from ≡ suc (j - from) = omega arith in
    let here : from + (j - from) ≡ j = omega arith in
    rw next (rw here refl)
