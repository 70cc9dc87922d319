-- What the bytes of a slot show.
use Rattle.std.proofs.Common.{◌≡◌, ◌≢◌, ◌==◌, ℕ, List, get_or, refl, sym, ◌∙◌, arith, inl, inr, if◌then◌else◌}
use Rattle.std.proofs.lemmas.Bool.{cases_eq}
use Rattle.std.proofs.lemmas.Bool.Decides.{nat_tests}
use Rattle.slot_file.specs.declared.slot.Slot.{Slot}
use Rattle.slot_file.specs.declared.slot.Slot.TheVariants.{Free, Half, Full, Damaged}
use Rattle.slot_file.specs.Layout.{part, moment_of, slot_of}

-- a slot by its gates
abbrev shown : ℕ → ℕ → List ℕ → List ℕ → ℕ → Slot
shown a b body_a body_b moment =
    if a == 0xB1 then (if b == 0xC2 then Full body_a body_b moment else Half body_a)
    else (if b == 0xC2 then Damaged a b else Free)

slot_of-shown : (version : ℕ) (s : List ℕ) → slot_of version s ≡ shown (get_or s 0 0) (get_or s 40 0) (part 4 36 s) (part 44 64 s) (moment_of version s)
unfolding slot_of
slot_of-shown version s = refl

module _ (a b : ℕ) (x y : List ℕ) (m : ℕ) where
  shown-free : a ≢ 0xB1 → b ≢ 0xC2 → shown a b x y m ≡ Free
  shown-free a_shut b_shut = grind (arith, nat_tests)

  shown-half : a ≡ 0xB1 → b ≢ 0xC2 → shown a b x y m ≡ Half x
  shown-half a_open b_shut = grind (arith, nat_tests)

  shown-full : a ≡ 0xB1 → b ≡ 0xC2 → shown a b x y m ≡ Full x y m
  shown-full a_open b_open = grind (arith, nat_tests)

  shown-damaged : a ≢ 0xB1 → b ≡ 0xC2 → shown a b x y m ≡ Damaged a b
  shown-damaged a_shut b_open = grind (arith, nat_tests)

  free-shown : shown a b x y m ≡ Free → (a ≢ 0xB1) × (b ≢ 0xC2)
  free-shown is = elim (cases_eq a 0xB1) [
    | inl a_open ↦ elim (cases_eq b 0xC2) [ inl b_open ↦ absurd (cc (shown-full a_open b_open)) | inr b_shut ↦ absurd (cc (shown-half a_open b_shut)) ]
    | inr a_shut ↦ elim (cases_eq b 0xC2) [ inl b_open ↦ absurd (cc (shown-damaged a_shut b_open)) | inr b_shut ↦ (a_shut, b_shut) ]
  ]

  half-shown : (z : List ℕ) → shown a b x y m ≡ Half z → (a ≡ 0xB1) × (b ≢ 0xC2) × (x ≡ z)
  half-shown z is = elim (cases_eq a 0xB1) [
    | inl a_open ↦ elim (cases_eq b 0xC2) [ inl b_open ↦ absurd (cc (shown-full a_open b_open)) | inr b_shut ↦ (a_open, b_shut, cc (shown-half a_open b_shut)) ]
    | inr a_shut ↦ elim (cases_eq b 0xC2) [ inl b_open ↦ absurd (cc (shown-damaged a_shut b_open)) | inr b_shut ↦ absurd (cc (shown-free a_shut b_shut)) ]
  ]

module _ (version : ℕ) (s : List ℕ) where
  pub free_is : get_or s 0 0 ≢ 0xB1 → get_or s 40 0 ≢ 0xC2 → slot_of version s ≡ Free
  free_is a_shut b_shut = slot_of-shown version s ∙ shown-free _ _ _ _ _ a_shut b_shut

  pub half_is : get_or s 0 0 ≡ 0xB1 → get_or s 40 0 ≢ 0xC2 → slot_of version s ≡ Half (part 4 36 s)
  half_is a_open b_shut = slot_of-shown version s ∙ shown-half _ _ _ _ _ a_open b_shut

  pub full_is : get_or s 0 0 ≡ 0xB1 → get_or s 40 0 ≡ 0xC2 → slot_of version s ≡ Full (part 4 36 s) (part 44 64 s) (moment_of version s)
  full_is a_open b_open = slot_of-shown version s ∙ shown-full _ _ _ _ _ a_open b_open

  pub damaged_is : get_or s 0 0 ≢ 0xB1 → get_or s 40 0 ≡ 0xC2 → slot_of version s ≡ Damaged (get_or s 0 0) (get_or s 40 0)
  damaged_is a_shut b_open = slot_of-shown version s ∙ shown-damaged _ _ _ _ _ a_shut b_open

  pub is_free : slot_of version s ≡ Free → (get_or s 0 0 ≢ 0xB1) × (get_or s 40 0 ≢ 0xC2)
  is_free is = free-shown _ _ _ _ _ (sym (slot_of-shown version s) ∙ is)

  pub is_half : (z : List ℕ) → slot_of version s ≡ Half z → (get_or s 0 0 ≡ 0xB1) × (get_or s 40 0 ≢ 0xC2) × (part 4 36 s ≡ z)
  is_half z is = half-shown _ _ _ _ _ z (sym (slot_of-shown version s) ∙ is)
