-- The places of commitments fit into the numbers used for them.
use Rattle.std.proofs.Common.{ℕ, ◌+◌, ◌*◌, ◌^◌, ◌≤◌, ◌<◌, inl, inr, arith}
use Rattle.lms_bytes.specs.HashLength.{IsDigitWidth, IsHashLength}
use Rattle.lms_bytes.specs.declared.params.Params.{Params}
use Rattle.std.proofs.Math.Nat.{le-mul_of_pos_right, pow-le-pow_right}
use Rattle.std.proofs.lemmas.Nat.{mul-le}

pub all_small : (k w p h : ℕ) → k ≤ 12 → w ≤ 8 → p ≤ 272 → h ≤ 25 → (32 * k + 32 * k * 2 ^ w * p) * 2 ^ h ≤ 2 ^ 50
all_small k w p h few narrow chains low =
    let digits : 2 ^ w ≤ 2 ^ 8 = pow-le-pow_right (omega arith) narrow in
    let leaves : 2 ^ h ≤ 2 ^ 25 = pow-le-pow_right (omega arith) low in
    let cell : 32 * k ≤ 384 = omega arith in
    let chain : 32 * k * 2 ^ w ≤ 384 * 2 ^ 8 = mul-le (32 * k) (2 ^ w) 384 (2 ^ 8) cell digits in
    let cells : 32 * k * 2 ^ w * p ≤ 384 * 2 ^ 8 * 272 = mul-le (32 * k * 2 ^ w) p (384 * 2 ^ 8) 272 chain chains in
    let leaf : 32 * k + 32 * k * 2 ^ w * p ≤ 2 ^ 25 = omega arith in
    mul-le (32 * k + 32 * k * 2 ^ w * p) (2 ^ h) (2 ^ 25) (2 ^ 25) leaf leaves

hash_most : (n : ℕ) → IsHashLength n → n ≤ 32
hash_most n (inl e) = omega arith
hash_most n (inr e) = omega arith

record IsWidth (w : ℕ) : Type 0 where
  some : 0 < w
  most : w ≤ 8

width : (w : ℕ) → IsDigitWidth w → IsWidth w
width w (inl e) = record { some = omega arith; most = omega arith }
width w (inr (inl e)) = record { some = omega arith; most = omega arith }
width w (inr (inr (inl e))) = record { some = omega arith; most = omega arith }
width w (inr (inr (inr e))) = record { some = omega arith; most = omega arith }

-- the number of chains of a set
chains_few : (n w p : ℕ) → IsHashLength n → IsDigitWidth w → p * w ≤ 8 * n + 16 → p ≤ 272
chains_few n w p hash digits within =
    let short : n ≤ 32 = hash_most n hash in
    let some : 0 < w = (width w digits).some in
    let many : p ≤ p * w = le-mul_of_pos_right p some in
    omega arith

pub leaves_small : (params : Params) (k : ℕ) → k ≤ 12 → (32 * k + 32 * k * 2 ^ params.w * params.p) * 2 ^ params.h ≤ 2 ^ 50
leaves_small params k few =
    all_small k params.w params.p params.h few (width params.w params.digit_width).most
    (chains_few params.n params.w params.p params.hash_length params.digit_width params.checksum_digits) params.height
