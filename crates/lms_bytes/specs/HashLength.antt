-- The lengths that hash values have, and the widths that digits have. The proofs stand with the definitions, since the
-- toolchain requires what a ghost field names to be among them.
use Rattle.std.specs.Prelude.{◌≡◌, ℕ, ◌⊎◌}
use Rattle.std.proofs.Common.{inl, inr, ap, arith}
use Rattle.std.specs.Coded.{Coded-set, coded_ℕ}

-- n: 24 bytes in the SHA-256/192 sets (SP 800-208 section 2.3), 32 in the others (RFC 8554 section 4.1)
abbrev pub IsHashLength : ℕ → Type 0
IsHashLength n = (n ≡ 24) ⊎ (n ≡ 32)

-- w, in bits (RFC 8554 section 4.1)
abbrev pub IsDigitWidth : ℕ → Type 0
IsDigitWidth w = (w ≡ 1) ⊎ (w ≡ 2) ⊎ (w ≡ 4) ⊎ (w ≡ 8)

-- of two facts that exclude each other
one_of : {A B : Type 0} → IsProp A → IsProp B → (A → B → ⊥) → IsProp (A ⊎ B)
one_of a b apart (inl x) (inl y) = ap inl (a x y)
one_of a b apart (inl x) (inr y) = absurd (apart x y)
one_of a b apart (inr x) (inl y) = absurd (apart y x)
one_of a b apart (inr x) (inr y) = ap inr (b x y)

equation : (a b : ℕ) → IsProp (a ≡ b)
equation a b = Coded-set coded_ℕ a b

pub IsHashLength-prop : (n : ℕ) → IsProp (IsHashLength n)
IsHashLength-prop n = one_of (equation n 24) (equation n 32) (λ x y. omega arith)

pub IsDigitWidth-prop : (w : ℕ) → IsProp (IsDigitWidth w)
IsDigitWidth-prop w =
    let from_four = one_of (equation w 4) (equation w 8) (λ x y. omega arith) in
    let from_two = one_of (equation w 2) from_four (λ x y. omega arith) in
    one_of (equation w 1) from_two (λ x y. omega arith)
