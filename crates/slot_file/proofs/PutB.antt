-- A put of body B and of the moment after it.
use Rattle.std.proofs.Common.{◌≡◌, ◌≢◌, ◌⊎◌, ◌==◌, ℕ, ◌+◌, ◌^◌, ◌<◌, ◌≤◌, List, [], ◌∷◌, ◌++◌, length, length-append, get_or, take, if◌then◌else◌, refl, sym, ◌∙◌, ap, arith, inl, inr, add-zero}
use Rattle.std.proofs.lemmas.Bool.{cases_eq}
use Rattle.std.proofs.lemmas.List.{append-nil, take_at, take_all, drop_at}
use Rattle.std.proofs.lemmas.Bool.Decides.{nat_tests}
use Rattle.byteorder.specs.Endian.{big_number, big_bytes}
use Rattle.byteorder.specs.Numbers.{length-bytes_high_first, big_number-reads_back}
use Rattle.disk_trait.specs.Images.{written, Torn}
use Rattle.slot_file.specs.declared.slot.Slot.{Slot}
use Rattle.slot_file.specs.declared.slot.Slot.TheVariants.{Free, Half, Full, Damaged}
use Rattle.slot_file.specs.Layout.{part, slot_size, slot_start, slot_at, slot_of, moment_of, moment_bytes}
use Rattle.slot_file.specs.Files.{IsPut, IsHalf}
use Rattle.slot_file.specs.Gated.{Gated, gated, second_body}
use Rattle.slot_file.proofs.Parts.{Outside, outside_torn, outside_written, outside_wider, outside_both, part-outside, outside_part, part-written, part-part, get_or-part, get_or-written}
use Rattle.slot_file.proofs.Puts.{is_put}
use Rattle.slot_file.proofs.Shown.{half_is, full_is, is_half}

test-other : {A : Type 0} (n : ℕ) (x y : A) → n ≢ 2 → (if n == 2 then x else y) ≡ y
test-other n x y other = grind (arith, nat_tests)

pub length-moment_bytes : (moment : ℕ) → length (moment_bytes moment) ≡ 8
unfolding moment_bytes
length-moment_bytes moment = length-bytes_high_first 8 moment

moment-same : (version : ℕ) (s s' : List ℕ) → part 108 8 s' ≡ part 108 8 s → moment_of version s' ≡ moment_of version s
unfolding moment_of
moment-same version s s' is = ap (λ (l : List ℕ). if version == 2 then big_number 8 l else 0) is

number-moment : (moment : ℕ) → moment < 2 ^ 64 → big_number 8 (moment_bytes moment) ≡ moment
unfolding moment_bytes
number-moment moment fits = ap (big_number 8) (sym (append-nil (big_bytes 8 moment))) ∙ big_number-reads_back 8 moment [] fits

moment-wide : (version moment : ℕ) (s : List ℕ) → version ≡ 2 → moment < 2 ^ 64 → part 108 8 s ≡ moment_bytes moment → moment_of version s ≡ moment
unfolding moment_of
moment-wide version moment s is fits there = ap (λ (v : ℕ). if v == 2 then big_number 8 (part 108 8 s) else 0) is ∙ ap (big_number 8) there ∙ number-moment moment fits

moment-narrow : (version : ℕ) (s : List ℕ) → version ≢ 2 → moment_of version s ≡ 0
unfolding moment_of
moment-narrow version s other = test-other version (big_number 8 (part 108 8 s)) 0 other

pub second-wide : (version : ℕ) (body : List ℕ) (moment : ℕ) → version ≡ 2 → second_body version body moment ≡ body ++ moment_bytes moment
unfolding second_body
second-wide version body moment is = ap (λ (v : ℕ). if v == 2 then body ++ moment_bytes moment else body) is

pub second-narrow : (version : ℕ) (body : List ℕ) (moment : ℕ) → version ≢ 2 → second_body version body moment ≡ body
unfolding second_body
second-narrow version body moment other = test-other version (body ++ moment_bytes moment) body other

-- the bytes of the slot begin at start, and the second body has n bytes
module _ (version start size n : ℕ) (least : 44 + n ≤ size) (some : 64 ≤ n) (old a : List ℕ) (fits : start + size ≤ length old) (half : slot_of version (part start size old) ≡ Half a) where
  -- while the second body is written the slot stays half
  stays_half : (new : List ℕ) → Outside (start + 44) n old new → slot_of version (part start size new) ≡ Half a
  stays_half new out =
      let inner = outside_part 44 n start size old new least fits out in
      let shut = is_half version (part start size old) a half in
      half_is version (part start size new) (inner.same 0 (inl (omega arith)) ∙ shut.0) (λ e. shut.1 (sym (inner.same 40 (inl (omega arith))) ∙ e))
      ∙ ap Half (part-outside 44 n 4 36 (part start size old) (part start size new) inner (inl (omega arith)) ∙ shut.2)

  module _ (mid new body : List ℕ) (moment : ℕ) (out : Outside (start + 44) n old mid) (is_body : part 44 64 (part start size mid) ≡ body) (is_moment : moment_of version (part start size mid) ≡ moment) (gate : Outside (start + 40) 1 mid new) where
    inner : Outside 40 1 (part start size mid) (part start size new)
    inner = outside_part 40 1 start size mid new (omega arith) (omega (arith, out.size)) gate

    was : (get_or (part start size mid) 0 0 ≡ 0xB1) × (get_or (part start size mid) 40 0 ≢ 0xC2) × (part 4 36 (part start size mid) ≡ a)
    was = is_half version (part start size mid) a (stays_half mid out)

    a_open : get_or (part start size new) 0 0 ≡ 0xB1
    a_open = inner.same 0 (inl (omega arith)) ∙ was.0

    body_a : part 4 36 (part start size new) ≡ a
    body_a = part-outside 40 1 4 36 (part start size mid) (part start size new) inner (inl (omega arith)) ∙ was.2

    body_b : part 44 64 (part start size new) ≡ body
    body_b = part-outside 40 1 44 64 (part start size mid) (part start size new) inner (inr (omega arith)) ∙ is_body

    at_moment : moment_of version (part start size new) ≡ moment
    at_moment = moment-same version (part start size mid) (part start size new) (part-outside 40 1 108 8 (part start size mid) (part start size new) inner (inr (omega arith))) ∙ is_moment

    pub opened : get_or (part start size new) 40 0 ≡ 0xC2 → slot_of version (part start size new) ≡ Full a body moment
    opened b_open = full_is version (part start size new) a_open b_open ∙ (λ i. Full (body_a i) (body_b i) (at_moment i))

    pub either : (slot_of version (part start size new) ≡ Half a) ⊎ (slot_of version (part start size new) ≡ Full a body moment)
    either = elim (cases_eq (get_or (part start size new) 40 0) 0xC2) [
      | inl b_open ↦ inr (opened b_open)
      | inr b_shut ↦ inl (half_is version (part start size new) a_open b_shut ∙ ap Half body_a)
    ]

-- the second body: its length, its front, and the moment after it
pub record Second (version : ℕ) (body : List ℕ) (moment : ℕ) (ys : List ℕ) : Type 0 where
  pub some : 64 ≤ length ys
  pub least : 44 + length ys ≤ slot_size version
  pub front : take 64 ys ≡ body
  pub moment_is : (s : List ℕ) → part 44 (length ys) s ≡ ys → moment_of version s ≡ moment

behind : (body s ys zs : List ℕ) → length body ≡ 64 → length zs ≡ 8 → ys ≡ body ++ zs → part 44 (length ys) s ≡ ys → part 108 8 s ≡ zs
behind body s ys zs is_64 is_8 is there =
    let total : length ys ≡ 72 = omega (arith, ap length is, length-append body zs) in
    sym (part-part 64 8 44 (length ys) s (omega arith)) ∙ ap (part 64 8) (there ∙ is)
    ∙ ap (take 8) (drop_at body zs 64 is_64) ∙ take_all 8 zs (omega arith)

pub second : (version : ℕ) (body : List ℕ) (moment : ℕ) (ys : List ℕ) → length body ≡ 64 → moment < 2 ^ 64 → (version ≢ 2 → moment ≡ 0) → ys ≡ second_body version body moment → Second version body moment ys
second version body moment ys is_64 fits none is_ys = elim (cases_eq version 2) [
  | inl is ↦
      let long = length-moment_bytes moment in
      let wide = is_ys ∙ second-wide version body moment is in
      let size : slot_size version ≡ 160 = grind (arith, nat_tests) in
      let total : length ys ≡ 72 = omega (arith, ap length wide, length-append body (moment_bytes moment)) in
      record {
        some = omega arith;
        least = omega arith;
        front = rw wide (take_at body (moment_bytes moment) 64 is_64);
        moment_is = λ s there. moment-wide version moment s is fits (behind body s ys (moment_bytes moment) is_64 long wide there);
      }
  | inr other ↦
      let narrow = is_ys ∙ second-narrow version body moment other in
      let size : slot_size version ≡ 128 = grind (arith, nat_tests) in
      record {
        some = omega (arith, ap length narrow);
        least = omega (arith, ap length narrow);
        front = rw narrow (take_all 64 body (omega arith));
        moment_is = λ s there. moment-narrow version s other ∙ sym (none other);
      }
]

module _ (version slot : ℕ) (body : List ℕ) (moment : ℕ) (ys old a : List ℕ) (two : Second version body moment ys) (fits : slot_start version slot + slot_size version ≤ length old) (half : slot_at version slot old ≡ Half a) where
  mid : List ℕ
  mid = written old (slot_start version slot + 44) ys

  out_mid : Outside (slot_start version slot + 44) (length ys) old mid
  unfolding mid
  out_mid = outside_written (slot_start version slot + 44) (length ys) ys old refl (omega (arith, two.least))

  there : part 44 (length ys) (part (slot_start version slot) (slot_size version) mid) ≡ ys
  unfolding mid
  there =
      part-part 44 (length ys) (slot_start version slot) (slot_size version) mid two.least
      ∙ part-written (slot_start version slot + 44) (length ys) ys old (omega (arith, two.least)) refl

  body_mid : part 44 64 (part (slot_start version slot) (slot_size version) mid) ≡ body
  body_mid =
      let s = part (slot_start version slot) (slot_size version) mid in
      ap (λ (k : ℕ). part k 64 s) (sym (add-zero 44)) ∙ sym (part-part 0 64 44 (length ys) s (omega (arith, two.some))) ∙ ap (take 64) there ∙ two.front

  wide : (at n : ℕ) (b d : List ℕ) → slot_start version slot ≤ at → at + n ≤ slot_start version slot + slot_size version → Outside at n b d → Outside (slot_start version slot) (slot_size version) b d
  wide at n b d low high out = outside_wider at n (slot_start version slot) (slot_size version) b d low high out

  as_put : (new : List ℕ) → Outside (slot_start version slot) (slot_size version) old new → (slot_at version slot new ≡ Half a) ⊎ (slot_at version slot new ≡ Full a body moment) → IsPut version slot (Full a body moment) old new
  as_put new out this = is_put version slot old new out (Full a body moment) (elim this [ inl stays ↦ inl (stays ∙ sym half) | inr put ↦ inr put ])

  body_torn : (new : List ℕ) → Torn (slot_start version slot + 44) (length ys) old new → IsPut version slot (Full a body moment) old new
  body_torn new torn =
      let out = outside_torn (slot_start version slot + 44) (length ys) old new (omega (arith, two.least)) torn in
      as_put new (wide (slot_start version slot + 44) (length ys) old new (omega arith) (omega (arith, two.least)) out)
      (inl (stays_half version (slot_start version slot) (slot_size version) (length ys) two.least two.some old a fits half new out))

  gate_torn : (new : List ℕ) → Torn (slot_start version slot + 40) 1 mid new → IsPut version slot (Full a body moment) old new
  gate_torn new torn =
      let gate = outside_torn (slot_start version slot + 40) 1 mid new (omega (arith, out_mid.size, two.least)) torn in
      let whole = outside_both (slot_start version slot) (slot_size version) old mid new
      (wide (slot_start version slot + 44) (length ys) old mid (omega arith) (omega (arith, two.least)) out_mid)
      (wide (slot_start version slot + 40) 1 mid new (omega arith) (omega (arith, two.least)) gate) in
      as_put new whole (either version (slot_start version slot) (slot_size version) (length ys) two.least two.some old a fits half mid new body moment out_mid body_mid (two.moment_is _ there) gate)

  -- each file that a put of body B may leave
  pub puts_b : (new : List ℕ) → Gated (slot_start version slot + 44) ys (slot_start version slot + 40) old new → IsPut version slot (Full a body moment) old new
  unfolding mid
  puts_b new leaves = elim leaves [ inl torn ↦ body_torn new torn | inr torn ↦ gate_torn new torn ]

  -- and the one that it leaves if it succeeds
  has : slot_at version slot (gated (slot_start version slot + 44) ys (slot_start version slot + 40) 0xC2 old) ≡ Full a body moment
  unfolding mid
  has =
      let start = slot_start version slot in
      let new = written mid (start + 40) (0xC2 ∷ []) in
      let gate = outside_written (start + 40) 1 (0xC2 ∷ []) mid refl (omega (arith, out_mid.size, two.least)) in
      let open_gate : get_or (part start (slot_size version) new) 40 0 ≡ 0xC2 = get_or-part start (slot_size version) 40 (start + 40) 0 new (omega (arith, two.least)) refl ∙ get_or-written (start + 40) 0xC2 mid (omega (arith, out_mid.size, two.least)) in
      opened version start (slot_size version) (length ys) two.least two.some old a fits half mid new body moment out_mid body_mid (two.moment_is _ there) gate open_gate

  pub has_b : (new : List ℕ) → new ≡ gated (slot_start version slot + 44) ys (slot_start version slot + 40) 0xC2 old → slot_at version slot new ≡ Full a body moment
  has_b new is = ap (slot_at version slot) is ∙ has

-- the first body of a half slot
pub half-body : (s : Slot) → IsHalf s → (a : List ℕ) × (s ≡ Half a)
half-body Free half = absurd half
half-body (Half a) half = (a, refl)
half-body (Full a b moment) half = absurd half
half-body (Damaged a b) half = absurd half
