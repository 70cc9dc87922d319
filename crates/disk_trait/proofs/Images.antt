-- An image after a write comes from an image before it.
use Rattle.std.proofs.Common.{◌≡◌, ◌⊎◌, ℕ, ◌+◌, ◌-◌, ◌<◌, ◌≤◌, min, max, Bool, true, false, List, ◌++◌, length, get_or, take, drop, refl, sym, ◌∙◌, arith, inl, inr, replicate, length-take, length-drop, get_or-take, get_or-drop}
use Rattle.std.proofs.lemmas.Bool.{cases_lt}
use Rattle.std.proofs.lemmas.List.{places, same_lists, length-replicate, length-take, length-drop, get_or-take, get_or-drop}
use Rattle.disk_trait.specs.Images.{written, Torn}
use Rattle.disk_trait.specs.MemDisk.{IsImage}
use Rattle.disk_trait.proofs.Written.{written_before, written_after}

-- the first m places of an image, with what was there in the range
abbrev mixed : ℕ → ℕ → ℕ → List ℕ → List ℕ → List ℕ
mixed m at n image bytes = take m (take at image ++ take n (drop at bytes) ++ drop (at + n) image)

module _ (m at n : ℕ) (image bytes : List ℕ) (is_m : m ≡ min (length image) (length bytes)) (ends : (length bytes < at + n) → length image ≤ at + n) where
  length-mixed : length (mixed m at n image bytes) ≡ m
  length-mixed = grind (arith, places)

  mixed_before : (k d : ℕ) → k < m → k < at → get_or (mixed m at n image bytes) k d ≡ get_or image k d
  mixed_before k d below before = grind (arith, places)

  mixed_inside : (k d : ℕ) → k < m → at ≤ k → k < at + n → get_or (mixed m at n image bytes) k d ≡ get_or bytes k d
  mixed_inside k d below from inside = grind (arith, places)

  mixed_after : (k d : ℕ) → k < m → at + n ≤ k → get_or (mixed m at n image bytes) k d ≡ get_or image k d
  mixed_after k d below after = grind (arith, places)

-- what a write of n bytes at a place may do to bytes and marks
pub record Changes (at n : ℕ) (bytes bytes' : List ℕ) (pending pending' : List Bool) : Type 0 where
  pub no_shorter : length bytes ≤ length bytes'
  pub no_longer : length bytes' ≤ max (length bytes) (at + n)
  pub begins : length bytes < length bytes' → at ≤ length bytes
  pub same : (k : ℕ) → k < length bytes → (k < at) ⊎ (at + n ≤ k) → get_or bytes' k 0 ≡ get_or bytes k 0
  pub marks : (k : ℕ) → k < length bytes → (k < at) ⊎ (at + n ≤ k) → get_or pending k true ≡ false → get_or pending' k true ≡ false

module _ (at n : ℕ) (bytes bytes' stable : List ℕ) (pending pending' : List Bool) (changes : Changes at n bytes bytes' pending pending') (image : List ℕ) (is : IsImage bytes' stable pending' image) where
  m : ℕ
  m = min (length image) (length bytes)

  earlier : List ℕ
  earlier = mixed m at n image bytes

  is_m : m ≡ min (length image) (length bytes)
  unfolding m
  is_m = refl

  ends : (length bytes < at + n) → length image ≤ at + n
  ends short = omega (arith, changes.no_longer, is.no_longer)

  long : length earlier ≡ m
  unfolding earlier
  long = length-mixed m at n image bytes is_m ends

  before : (k d : ℕ) → k < m → k < at → get_or earlier k d ≡ get_or image k d
  unfolding earlier
  before k d below there = mixed_before m at n image bytes is_m ends k d below there

  inside : (k d : ℕ) → k < m → at ≤ k → k < at + n → get_or earlier k d ≡ get_or bytes k d
  unfolding earlier
  inside k d below from there = mixed_inside m at n image bytes is_m ends k d below from there

  after : (k d : ℕ) → k < m → at + n ≤ k → get_or earlier k d ≡ get_or image k d
  unfolding earlier
  after k d below there = mixed_after m at n image bytes is_m ends k d below there

  outside : (k : ℕ) → k < m → (k < at) ⊎ (at + n ≤ k) → get_or pending k true ≡ false → get_or earlier k 0 ≡ get_or bytes k 0
  outside k below place unmarked =
      let there : k < length bytes = omega (arith, is_m) in
      let old : get_or earlier k 0 ≡ get_or image k 0 = elim place [ inl l ↦ before k 0 below l | inr r ↦ after k 0 below r ] in
      old ∙ is.others k (omega (arith, is_m)) (changes.marks k there place unmarked) ∙ changes.same k there place

  others : (k : ℕ) → k < length earlier → get_or pending k true ≡ false → get_or earlier k 0 ≡ get_or bytes k 0
  others k below unmarked =
      let small : k < m = omega (arith, long) in
      elim (cases_lt k at) [
        | inl l ↦ outside k small (inl l) unmarked
        | inr from ↦ elim (cases_lt k (at + n)) [ inl there ↦ inside k 0 small from there | inr r ↦ outside k small (inr r) unmarked ]
      ]

  is_earlier : IsImage bytes stable pending earlier
  is_earlier = record {
    no_shorter = omega (arith, long, is_m, is.no_shorter, changes.no_shorter);
    no_longer = omega (arith, long, is_m);
    others = others;
  }

  -- an image that is longer than what was there shows that the write began within it
  begun : (length image ≤ length bytes) ⊎ (at ≤ length bytes)
  begun = elim (cases_lt (length bytes) (length image)) [
    | inl less ↦ inr (changes.begins (omega (arith, is.no_longer)))
    | inr most ↦ inl most
  ]

  torn : Torn at n earlier image
  torn = record {
    before = same_lists _ _ (grind (arith, places, long, is_m, begun))
        (λ k d below.
        let there : k < length image = omega (arith, length-take at image) in
        let first : k < at = omega (arith, length-take at image) in
        let small : k < m = omega (arith, is_m, begun) in
        get_or-take at image k d first ∙ sym (before k d small first) ∙ sym (get_or-take at earlier k d first));
    after = same_lists _ _ (grind (arith, places, long, is_m, ends))
        (λ k d below.
        let there : at + n + k < length image = omega (arith, length-drop (at + n) image) in
        let small : at + n + k < m = omega (arith, is_m, ends) in
        get_or-drop (at + n) image k d ∙ sym (after (at + n + k) d small (omega arith)) ∙ sym (get_or-drop (at + n) earlier k d));
    no_shorter = omega (arith, long, is_m);
    no_longer = omega (arith, long, is_m, is.no_longer, changes.no_longer);
  }

  pub follows : (x : List ℕ) × IsImage bytes stable pending x × Torn at n x image
  follows = (earlier, is_earlier, torn)

-- a place outside of what was written
pub written-outside : {A : Type 0} (xs ys : List A) (len len' at n k : ℕ) (d : A) → length ys ≡ n → at ≤ length xs → k < len → len ≤ len' → (k < at) ⊎ (at + n ≤ k) → get_or (take len' (written xs at ys)) k d ≡ get_or (take len xs) k d
written-outside xs ys len len' at n k d size from below more place =
    get_or-take len' (written xs at ys) k d (omega arith)
    ∙ elim place [ inl l ↦ written_before xs ys at from k d l | inr r ↦ written_after xs ys at from k d (omega arith) ]
    ∙ sym (get_or-take len xs k d below)

-- the fronts of buffers after marks alone, and after a write
pub changes-named : (bytes : List ℕ) (pending : List Bool) (len at n from to : ℕ) → len ≤ length bytes → len ≤ length pending → from ≡ min len at → to ≡ min len (from + n) → Changes at n (take len bytes) (take len bytes) (take len pending) (take len (written pending from (replicate (to - from) true)))
changes-named bytes pending len at n from to within size is_from is_to = record {
  no_shorter = omega arith;
  no_longer = omega arith;
  begins = λ less. absurd (omega arith);
  same = λ k below place. refl;
  marks = λ k below place unmarked.
      let small : k < len = omega (arith, length-take len bytes) in
      let outside : (k < from) ⊎ (from + (to - from) ≤ k) = elim place [ inl l ↦ inl (omega arith) | inr r ↦ inr (omega arith) ] in
      written-outside pending (replicate (to - from) true) len len from (to - from) k true (length-replicate (to - from) true) (omega arith) small (omega arith) outside ∙ unmarked;
}

pub changes-written : (bytes ys : List ℕ) (pending : List Bool) (len at : ℕ) → at ≤ len → len ≤ length bytes → length pending ≡ length bytes → at + length ys ≤ length bytes → Changes at (length ys) (take len bytes) (take (max len (at + length ys)) (written bytes at ys)) (take len pending) (take (max len (at + length ys)) (written pending at (replicate (length ys) true)))
changes-written bytes ys pending len at from within size fits = record {
  no_shorter = grind (arith, places);
  no_longer = grind (arith, places);
  begins = λ less. omega (arith, length-take len bytes);
  same = λ k below place. written-outside bytes ys len (max len (at + length ys)) at (length ys) k 0 refl (omega arith) (omega (arith, length-take len bytes)) (omega arith) place;
  marks = λ k below place unmarked.
      written-outside pending (replicate (length ys) true) len (max len (at + length ys)) at (length ys) k true (length-replicate (length ys) true) (omega arith) (omega (arith, length-take len bytes)) (omega arith) place ∙ unmarked;
}
