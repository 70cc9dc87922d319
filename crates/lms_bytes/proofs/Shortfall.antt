-- The checksum fits its two bytes.
use Rattle.std.proofs.Common.{◌≡◌, ℕ, zero, suc, ◌-◌, ◌*◌, ◌%◌, ◌^◌, ◌<◌, ◌≤◌, List, arith}
use Rattle.std.proofs.Math.Nat.{mul-le-mul_right, mod-eq_of_lt}
use Rattle.lms_bytes.specs.Digits.{shortfall}

shortfall-le : (s : List ℕ) (w k : ℕ) → shortfall s w k ≤ k * (2 ^ w - 1)
unfolding shortfall
shortfall-le s w zero = omega arith
shortfall-le s w (suc k) = omega (arith, shortfall-le s w k)

pub shifted : (s : List ℕ) (w k ls : ℕ) → k * (2 ^ w - 1) * 2 ^ ls < 2 ^ 16 → shortfall s w k * 2 ^ ls % 2 ^ 16 ≡ shortfall s w k * 2 ^ ls
shifted s w k ls fits =
    let most : shortfall s w k * 2 ^ ls ≤ k * (2 ^ w - 1) * 2 ^ ls = mul-le-mul_right (2 ^ ls) (shortfall-le s w k) in
    mod-eq_of_lt (omega arith)
