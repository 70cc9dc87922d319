-- Worked examples: those of RFC 8554 for coef (section 3.1.3), and checksums of digests of zeros.
use Rattle.std.proofs.Common.{◌≡◌, ◌*◌, ◌^◌, ◌∷◌, [], replicate, refl}
use Rattle.lms_bytes.specs.Bytes.{u16str}
use Rattle.lms_bytes.specs.Digits.{coef, shortfall}

coef_bit : coef (0x12 ∷ 0x34 ∷ []) 7 1 ≡ 0
coef_bit = refl

coef_nibble : coef (0x12 ∷ 0x34 ∷ []) 0 4 ≡ 1
coef_nibble = refl

zeros_32_w8 : shortfall (replicate 32 0) 8 32 ≡ 8160
unfolding shortfall
zeros_32_w8 = refl

zeros_32_w4 : shortfall (replicate 32 0) 4 64 ≡ 960
unfolding shortfall
zeros_32_w4 = refl

zeros_24_w2 : shortfall (replicate 24 0) 2 96 ≡ 288
unfolding shortfall
zeros_24_w2 = refl

zeros_24_w1 : shortfall (replicate 24 0) 1 192 ≡ 192
unfolding shortfall
zeros_24_w1 = refl

-- the checksum digits 3, 12, 0 of 32 zeros at w = 4
first_digit : coef (u16str (960 * 2 ^ 4)) 0 4 ≡ 3
first_digit = refl

second_digit : coef (u16str (960 * 2 ^ 4)) 1 4 ≡ 12
second_digit = refl

third_digit : coef (u16str (960 * 2 ^ 4)) 2 4 ≡ 0
third_digit = refl
