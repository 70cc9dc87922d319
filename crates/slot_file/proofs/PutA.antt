-- A put of body A.
use Rattle.std.proofs.Common.{◌≡◌, ◌≢◌, ◌⊎◌, ℕ, ◌+◌, ◌≤◌, List, [], ◌∷◌, length, get_or, refl, sym, ◌∙◌, ap, subst, arith, inl, inr, add-zero}
use Rattle.std.proofs.lemmas.Bool.{cases_eq}
use Rattle.disk_trait.specs.Images.{written, Torn}
use Rattle.slot_file.specs.declared.slot.Slot.TheVariants.{Free, Half}
use Rattle.slot_file.specs.Layout.{part, slot_size, slot_start, slot_at, slot_of}
use Rattle.slot_file.specs.Files.{IsPut}
use Rattle.slot_file.specs.Gated.{Gated, gated}
use Rattle.slot_file.proofs.Parts.{Outside, outside_torn, outside_written, outside_wider, outside_both, part-outside, outside_part, part-written, part-part, get_or-part, get_or-written}
use Rattle.slot_file.proofs.Puts.{least_size, is_put}
use Rattle.slot_file.proofs.Shown.{free_is, half_is, is_free}

-- the bytes of the slot begin at start
module _ (version start size : ℕ) (least : 128 ≤ size) (old : List ℕ) (fits : start + size ≤ length old) (free : slot_of version (part start size old) ≡ Free) where
  -- while the body is written the slot stays free
  stays_free : (new : List ℕ) → Outside (start + 4) 36 old new → slot_of version (part start size new) ≡ Free
  stays_free new out =
      let inner = outside_part 4 36 start size old new (omega arith) fits out in
      let shut = is_free version (part start size old) free in
      free_is version (part start size new) (λ e. shut.0 (sym (inner.same 0 (inl (omega arith))) ∙ e)) (λ e. shut.1 (sym (inner.same 40 (inr (omega arith))) ∙ e))

  module _ (mid new body : List ℕ) (out : Outside (start + 4) 36 old mid) (is_body : part (start + 4) 36 mid ≡ body) (gate : Outside start 1 mid new) where
    -- the gate, which is the slot's first byte
    inner : Outside 0 1 (part start size mid) (part start size new)
    inner = outside_part 0 1 start size mid new (omega arith) (omega (arith, out.size)) (rw add-zero gate)

    kept : part 4 36 (part start size new) ≡ body
    kept = part-outside 0 1 4 36 (part start size mid) (part start size new) inner (inr (omega arith)) ∙ part-part 4 36 start size mid (omega arith) ∙ is_body

    b_shut : get_or (part start size new) 40 0 ≢ 0xC2
    b_shut e =
        let first = outside_part 4 36 start size old mid (omega arith) fits out in
        (is_free version (part start size old) free).1 (sym (first.same 40 (inr (omega arith))) ∙ sym (inner.same 40 (inr (omega arith))) ∙ e)

    pub opened : get_or (part start size new) 0 0 ≡ 0xB1 → slot_of version (part start size new) ≡ Half body
    opened a_open = half_is version (part start size new) a_open b_shut ∙ ap Half kept

    pub either : (slot_of version (part start size new) ≡ Free) ⊎ (slot_of version (part start size new) ≡ Half body)
    either = elim (cases_eq (get_or (part start size new) 0 0) 0xB1) [
      | inl a_open ↦ inr (opened a_open)
      | inr a_shut ↦ inl (free_is version (part start size new) a_shut b_shut)
    ]

module _ (version slot : ℕ) (body old : List ℕ) (is_36 : length body ≡ 36) (fits : slot_start version slot + slot_size version ≤ length old) (free : slot_at version slot old ≡ Free) where
  mid : List ℕ
  mid = written old (slot_start version slot + 4) body

  out_mid : Outside (slot_start version slot + 4) 36 old mid
  unfolding mid
  out_mid = outside_written (slot_start version slot + 4) 36 body old is_36 (omega (arith, least_size version))

  body_mid : part (slot_start version slot + 4) 36 mid ≡ body
  unfolding mid
  body_mid = part-written (slot_start version slot + 4) 36 body old (omega (arith, least_size version)) is_36

  wide : (at n : ℕ) (a b : List ℕ) → slot_start version slot ≤ at → at + n ≤ slot_start version slot + slot_size version → Outside at n a b → Outside (slot_start version slot) (slot_size version) a b
  wide at n a b low high out = outside_wider at n (slot_start version slot) (slot_size version) a b low high out

  body_torn : (new : List ℕ) → Torn (slot_start version slot + 4) 36 old new → IsPut version slot (Half body) old new
  body_torn new torn =
      let least = least_size version in
      let out = outside_torn (slot_start version slot + 4) 36 old new (omega arith) torn in
      is_put version slot old new (wide (slot_start version slot + 4) 36 old new (omega arith) (omega arith) out) (Half body)
      (inl (stays_free version (slot_start version slot) (slot_size version) least old fits free new out ∙ sym free))

  gate_torn : (new : List ℕ) → Torn (slot_start version slot) 1 mid new → IsPut version slot (Half body) old new
  gate_torn new torn =
      let least = least_size version in
      let gate = outside_torn (slot_start version slot) 1 mid new (omega (arith, out_mid.size)) torn in
      let whole = outside_both (slot_start version slot) (slot_size version) old mid new
      (wide (slot_start version slot + 4) 36 old mid (omega arith) (omega arith) out_mid)
      (wide (slot_start version slot) 1 mid new (omega arith) (omega arith) gate) in
      let this = either version (slot_start version slot) (slot_size version) least old fits free mid new body out_mid body_mid gate in
      is_put version slot old new whole (Half body) (elim this [ inl stays ↦ inl (stays ∙ sym free) | inr put ↦ inr put ])

  -- each file that a put of body A may leave
  puts : (new : List ℕ) → Gated (slot_start version slot + 4) body (slot_start version slot) old new → IsPut version slot (Half body) old new
  unfolding mid
  puts new leaves = elim leaves [
    | inl torn ↦ body_torn new (subst (λ (n : ℕ). Torn (slot_start version slot + 4) n old new) is_36 torn)
    | inr torn ↦ gate_torn new torn
  ]

  -- and the one that it leaves if it succeeds
  has : slot_at version slot (gated (slot_start version slot + 4) body (slot_start version slot) 0xB1 old) ≡ Half body
  unfolding mid
  has =
      let least = least_size version in
      let start = slot_start version slot in
      let gate = outside_written start 1 (0xB1 ∷ []) mid refl (omega (arith, out_mid.size)) in
      let new = written mid start (0xB1 ∷ []) in
      let open_gate : get_or (part start (slot_size version) new) 0 0 ≡ 0xB1 = get_or-part start (slot_size version) 0 start 0 new (omega arith) (omega arith) ∙ get_or-written start 0xB1 mid (omega (arith, out_mid.size)) in
      opened version start (slot_size version) least old fits free mid new body out_mid body_mid gate open_gate

  pub puts_a : (new : List ℕ) → Gated (slot_start version slot + 4) body (slot_start version slot + 0) old new → IsPut version slot (Half body) old new
  puts_a new leaves = puts new (subst (λ (k : ℕ). Gated (slot_start version slot + 4) body k old new) (add-zero (slot_start version slot)) leaves)

  pub has_a : (new : List ℕ) → new ≡ gated (slot_start version slot + 4) body (slot_start version slot + 0) 0xB1 old → slot_at version slot new ≡ Half body
  has_a new is = ap (slot_at version slot) (is ∙ ap (λ (k : ℕ). gated (slot_start version slot + 4) body k 0xB1 old) (add-zero (slot_start version slot))) ∙ has
