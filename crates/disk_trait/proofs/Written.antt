-- Lists after a write to a part of them.
use Rattle.std.proofs.Common.{◌≡◌, ℕ, ◌+◌, ◌-◌, ◌<◌, ◌≤◌, min, max, List, ◌++◌, length, get_or, take, drop, replicate, ap, ◌∙◌, arith}
use Rattle.std.proofs.lemmas.List.{get_or_append_left, get_or-append_right, get_or-drop, get_or-take, length-append, length-take-le, places, same_lists}
use Rattle.disk_trait.specs.Images.{written}

module _ {A : Type 0} (xs ys : List A) (at : ℕ) (within : at ≤ length xs) where
  size : length (take at xs ++ ys) ≡ at + length ys
  size = length-append (take at xs) ys ∙ ap (λ (n : ℕ). n + length ys) (length-take-le at xs within)

  pub written_before : (k : ℕ) (d : A) → k < at → get_or (written xs at ys) k d ≡ get_or xs k d
  written_before k d before =
      get_or_append_left (take at xs ++ ys) (drop (at + length ys) xs) d k (omega (arith, size))
      ∙ get_or_append_left (take at xs) ys d k (omega (arith, length-take-le at xs within))
      ∙ get_or-take at xs k d before

  pub written_inside : (k : ℕ) (d : A) → at ≤ k → k < at + length ys → get_or (written xs at ys) k d ≡ get_or ys (k - at) d
  written_inside k d from below =
      get_or_append_left (take at xs ++ ys) (drop (at + length ys) xs) d k (omega (arith, size))
      ∙ get_or-append_right (take at xs) ys at k d (length-take-le at xs within) from

  pub written_after : (k : ℕ) (d : A) → at + length ys ≤ k → get_or (written xs at ys) k d ≡ get_or xs k d
  written_after k d after =
      let rest : at + length ys + (k - (at + length ys)) ≡ k = omega arith in
      get_or-append_right (take at xs ++ ys) (drop (at + length ys) xs) (at + length ys) k d size after
      ∙ get_or-drop (at + length ys) xs (k - (at + length ys)) d
      ∙ ap (λ (j : ℕ). get_or xs j d) rest

-- the front of a list that a write made longer
pub take-written : {A : Type 0} (xs ys : List A) (len at n : ℕ) → length ys ≡ n → at ≤ len → len ≤ length xs → at + n ≤ length xs → take (max len (at + n)) (written xs at ys) ≡ written (take len xs) at ys
take-written xs ys len at n size from within fits = same_lists _ _ (grind (arith, places)) (λ k d below. grind (arith, places))

-- the front of a list after a write that may go past it
pub take-named : {A : Type 0} (xs : List A) (y : A) (len at n from to : ℕ) → len ≤ length xs → from ≡ min len at → to ≡ min len (from + n) → take len (written xs from (replicate (to - from) y)) ≡ take at (take len xs) ++ replicate (min n (length (take len xs) - at)) y ++ drop (at + n) (take len xs)
take-named xs y len at n from to within is_from is_to = same_lists _ _ (grind (arith, places)) (λ k d below. grind (arith, places))
