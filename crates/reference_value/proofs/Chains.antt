-- A chain that is written value by value.
use Rattle.std.proofs.Common.{◌≡◌, ℕ, suc, ◌+◌, ◌-◌, List, refl, arith, add-one}
use Rattle.lms_bytes.specs.declared.params.Params.{Params}
use Rattle.ots_chain.specs.Chains.{steps}

-- one step more
pub steps-next : (params : Params) (id : List ℕ) (q i j : ℕ) (x : List ℕ)
    → steps params id q i j (j + 1 - j) (steps params id q i 0 j x) ≡ steps params id q i 0 (j + 1) x
unfolding steps
steps-next params id q i j x =
    let one : j + 1 - j ≡ suc 0 = omega arith in
    let here : j + 0 ≡ 0 + j = omega arith in
    rw (one, add-one j) (rw here refl)

pub steps-none : (params : Params) (id : List ℕ) (q i : ℕ) (x : List ℕ) → steps params id q i 0 0 x ≡ x
unfolding steps
steps-none params id q i x = refl
