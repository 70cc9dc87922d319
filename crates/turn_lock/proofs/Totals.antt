-- Numbers of all seats, added up.
use Rattle.std.proofs.Common.{◌≡◌, ℕ, zero, suc, ◌+◌, ◌^◌, ◌<◌, ◌≤◌, max, Bool, true, false, nat_le, cond, List, [], ◌∷◌, ◌++◌, set, count_by, refl, sym, ap, arith}
use Rattle.std.proofs.lemmas.Bool.Decides.{nat_tests}
use Rattle.std.proofs.lemmas.List.Sums.{sum_by-append}
use mathlib.Core.Option.{some, some-injective, some-ne-none}
use lib.ListN.{get_elem?}
use Rattle.turn_lock.specs.Known.{worn_parts}
use Rattle.turn_lock.specs.Turned.{total}
use Rattle.turn_lock.specs.declared.view.Known.{Known}

module _ {A : Type 0} (f : A → ℕ) where
  pub total_set : (ds : List A) (i : ℕ) (v w : A) → get_elem? ds i ≡ some v → total f (set ds i w) + f v ≡ total f ds + f w
  unfolding total
  total_set [] i v w at = absurd (some-ne-none v (sym at))
  total_set (d ∷ ds) zero v w at = let e : f d ≡ f v = ap f (some-injective d v at) in omega arith
  total_set (d ∷ ds) (suc i) v w at = omega (arith, total_set ds i v w at)

  pub total_snoc : (ds : List A) (w : A) → total f (ds ++ w ∷ []) ≡ total f ds + f w
  unfolding total
  total_snoc [] w = omega arith
  total_snoc (d ∷ ds) w = omega (arith, total_snoc ds w)

  pub total_le : (g : A → ℕ) (ds : List A) → ((d : A) → f d ≤ g d) → total f ds ≤ total g ds
  unfolding total
  total_le g [] h = omega arith
  total_le g (d ∷ ds) h = omega (arith, h d, total_le g ds h)

  -- if the numbers add up to 0, each is 0
  pub total_zero : (ds : List A) → total f ds ≡ 0 → (j : ℕ) (d : A) → get_elem? ds j ≡ some d → f d ≡ 0
  unfolding total
  total_zero [] z j d e = absurd (some-ne-none d (sym e))
  total_zero (x ∷ ds) z zero d e = let q : f x ≡ f d = ap f (some-injective x d e) in omega arith
  total_zero (x ∷ ds) z (suc j) d e = total_zero ds (omega arith) j d e

  pub total_none : (ds : List A) → ((j : ℕ) (d : A) → get_elem? ds j ≡ some d → f d ≡ 0) → total f ds ≡ 0
  unfolding total
  total_none [] h = refl
  total_none (x ∷ ds) h = omega (arith, h 0 x refl, total_none ds (λ j d e. h (suc j) d e))

  -- each number is no more than the sum
  pub total_at : (ds : List A) (j : ℕ) (d : A) → get_elem? ds j ≡ some d → f d ≤ total f ds
  unfolding total
  total_at [] j d e = absurd (some-ne-none d (sym e))
  total_at (x ∷ ds) zero d e = let q : f x ≡ f d = ap f (some-injective x d e) in omega arith
  total_at (x ∷ ds) (suc j) d e = omega (arith, total_at ds j d e)

  pub total_one : (d : A) → total f (d ∷ []) ≡ f d
  unfolding total
  total_one d = omega arith

pub count_append : {E : Type 0} (p : E → Bool) (xs ys : List E) → count_by p (xs ++ ys) ≡ count_by p xs + count_by p ys
count_append p xs ys = sum_by-append (λ x. cond (p x) 1 0) xs ys

module _ {E N : Type 0} where
  pub worn_parts-le : (d : Known E N) → worn_parts d ≤ d.parts
  worn_parts-le d = let Is : Bool → Type 0 = λ b. cond b d.parts 0 ≤ d.parts in
      elim (nat_le (2 ^ 62) d.greatest) as Is [ true ↦ omega arith | false ↦ omega arith ]

  pub worn_parts-fresh : (d : Known E N) → d.greatest < 2 ^ 62 → worn_parts d ≡ 0
  worn_parts-fresh d lt = grind (arith, nat_tests)

  pub worn_parts-worn : (d : Known E N) → 2 ^ 62 ≤ d.greatest → worn_parts d ≡ d.parts
  worn_parts-worn d le = grind (arith, nat_tests)

  -- two that are joined may have drawn at least as many worn tickets as both apart
  pub worn_parts-both : (d e b : Known E N) → b.greatest ≡ max d.greatest e.greatest → b.parts ≡ d.parts + e.parts → worn_parts d + worn_parts e ≤ worn_parts b
  worn_parts-both d e b g p = grind (arith, nat_tests)
