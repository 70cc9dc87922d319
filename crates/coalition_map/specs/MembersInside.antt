-- The bits of a set of trustees can be got back from it. The proofs stand with the definitions, since the toolchain
-- requires what a type's model names to be among them.
use Rattle.std.proofs.Common.{◌≡◌, inl, inr, ◌≢◌, ℕ, zero, suc, ◌+◌, ◌-◌, ◌*◌, ◌/◌, ◌%◌, ◌^◌, ◌<◌, eqb, [], ◌∷◌}
use Rattle.std.proofs.Common.{refl, ◌∙◌, ap, arith, pow-suc}
use Rattle.std.proofs.lemmas.Bool.{cases_eq, cond-true, cond-false}
use Rattle.coalition_map.specs.declared.members.Members.TheInside.{Inside}
use Rattle.coalition_map.specs.Members.{trustees_from, member_numbers, bits_of}

-- one more trustee, in front
pub trustees_from-in : (a m b : ℕ) → b % 2 ≡ 1 → trustees_from a (suc m) b ≡ a ∷ trustees_from (a + 1) m (b / 2)
unfolding trustees_from
trustees_from-in a m b e = rw (cond-true (eqb (b % 2) 1) (a ∷ []) [] (grind arith)) refl

pub trustees_from-out : (a m b : ℕ) → b % 2 ≢ 1 → trustees_from a (suc m) b ≡ trustees_from (a + 1) m (b / 2)
unfolding trustees_from
trustees_from-out a m b e = rw (cond-false (eqb (b % 2) 1) (a ∷ []) [] (grind arith)) refl

pub half_below : (b m : ℕ) → b < 2 ^ suc m → b / 2 < 2 ^ m
half_below b m h = omega (arith, pow-suc 2 m)

pub below_one : (b : ℕ) → b < 2 ^ 0 → b ≡ 0
below_one b h = omega arith

odd_product : (x y b : ℕ) → b ≡ 2 * y + 1 → x + (x * 2) * y ≡ x * b
odd_product x y b e = rw e (omega arith)

even_product : (x y b : ℕ) → b ≡ 2 * y → (x * 2) * y ≡ x * b
even_product x y b e = rw e (omega arith)

-- ---- the bits of a set give its bits
bits_in : (a m b : ℕ) → b % 2 ≡ 1 → bits_of (trustees_from (suc a + 1) m (b / 2)) ≡ 2 ^ suc a * (b / 2)
    → bits_of (trustees_from (suc a) (suc m) b) ≡ 2 ^ a * b
unfolding bits_of
bits_in a m b e ih =
    let l : suc a - 1 ≡ a = omega arith in
    let half : b ≡ 2 * (b / 2) + 1 = omega arith in
    rw (trustees_from-in (suc a) m b e, ih, l, pow-suc 2 a) (odd_product (2 ^ a) (b / 2) b half)

bits_out : (a m b : ℕ) → b % 2 ≢ 1 → bits_of (trustees_from (suc a + 1) m (b / 2)) ≡ 2 ^ suc a * (b / 2)
    → bits_of (trustees_from (suc a) (suc m) b) ≡ 2 ^ a * b
bits_out a m b e ih =
    let half : b ≡ 2 * (b / 2) = omega arith in
    rw (trustees_from-out (suc a) m b e, ih, pow-suc 2 a) (even_product (2 ^ a) (b / 2) b half)

pub bits_of-trustees_from : (a m b : ℕ) → b < 2 ^ m → bits_of (trustees_from (suc a) m b) ≡ 2 ^ a * b
unfolding trustees_from bits_of
bits_of-trustees_from a zero b h = rw (below_one b h) (omega arith)
bits_of-trustees_from a (suc m) b h =
    let s : suc a + 1 ≡ suc (suc a) = omega arith in
    let ih : bits_of (trustees_from (suc a + 1) m (b / 2)) ≡ 2 ^ suc a * (b / 2) =
    rw s (bits_of-trustees_from (suc a) m (b / 2) (half_below b m h)) in
    elim (cases_eq (b % 2) 1) [ inl e ↦ bits_in a m b e ih | inr e ↦ bits_out a m b e ih ]

pub bits_of-member_numbers : (b : ℕ) → b < 2 ^ 16 → bits_of (member_numbers b) ≡ b
unfolding member_numbers
bits_of-member_numbers b h = bits_of-trustees_from 0 16 b h ∙ omega arith

pub comes_back : (m : Inside) → m.bits < 2 ^ 16 → record { bits = bits_of (member_numbers m.bits) } ≡ m
comes_back m small = ap (λ b. record { bits = b }) (bits_of-member_numbers m.bits small)
