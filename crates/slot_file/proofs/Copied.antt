-- The slots of a file that is copied.
use Rattle.std.proofs.Common.{◌≡◌, ◌≢◌, ◌==◌, ℕ, zero, suc, ◌+◌, ◌*◌, ◌<◌, ◌≤◌, Bool, true, false, not, List, [], ◌∷◌, ◌++◌, length, get_or, drop, replicate, count_by, fold, if◌then◌else◌, refl, sym, ◌∙◌, ap, arith, inl, inr, add-one, length-append, length-take, length-drop}
use Rattle.std.proofs.lemmas.Bool.{cases_lt, false≢true}
use Rattle.std.proofs.lemmas.List.{flat_map_more, same_lists, places}
use Rattle.std.specs.List.{flat_map}
use Rattle.byteorder.specs.Endian.{big_number}
use Rattle.disk_trait.specs.Images.{written}
use Rattle.slot_file.specs.declared.header.Header.{Header}
use Rattle.slot_file.specs.declared.slot.Slot.{Slot}
use Rattle.slot_file.specs.declared.slot.Slot.TheVariants.{Free, Half, Full, Damaged}
use Rattle.slot_file.specs.Copies.{is_free, is_damaged, slots_in, taken_count, slot_block, with_part, IsCopy}
use Rattle.slot_file.specs.Files.{without_moment}
use Rattle.slot_file.specs.Fresh.{HasFields}
use Rattle.slot_file.specs.Layout.{part, header_block, slot_size, slot_start, file_size, slot_at, slot_of, moment_of}
use Rattle.slot_file.proofs.Blank.{get_or-zeros, length-header_block, is_file_of}
use Rattle.slot_file.proofs.Kept.{slot-within}
use Rattle.slot_file.proofs.Parts.{Outside, outside_both, outside_wider, outside_written, part-outside, part-written, get_or-written}
use Rattle.slot_file.proofs.Puts.{least_size}
use Rattle.slot_file.proofs.Shown.{free_is, half_is, full_is}

pub slots_in-more : (version slot : ℕ) (file : List ℕ) → slots_in version (slot + 1) file ≡ slots_in version slot file ++ slot_at version slot file ∷ []
slots_in-more version slot file = ap (λ (n : ℕ). slots_in version n file) (add-one slot)

-- one slot more
pub blocks-more : (version slot : ℕ) (file front : List ℕ) → (front ++ flat_map slot_block (slots_in version slot file)) ++ slot_block (slot_at version slot file) ≡ front ++ flat_map slot_block (slots_in version (slot + 1) file)
blocks-more version slot file front =
    flat_map_more slot_block front (slots_in version slot file) (slot_at version slot file)
    ∙ ap (λ (slots : List Slot). front ++ flat_map slot_block slots) (sym (slots_in-more version slot file))

fold-push : {X Y : Type 0} (f : Y → X → Y) (y : Y) (xs : List X) (x : X) → fold f y (xs ++ x ∷ []) ≡ f (fold f y xs) x
fold-push f y [] x = refl
fold-push f y (z ∷ xs) x = fold-push f (f y z) xs x

count-push : {X : Type 0} (p : X → Bool) (xs : List X) (x : X) → count_by p (xs ++ x ∷ []) ≡ count_by p xs + (if p x then 1 else 0)
count-push p xs x = fold-push (λ (n : ℕ) z. n + (if p z then 1 else 0)) 0 xs x

pub taken-more : (version slot : ℕ) (file : List ℕ) → taken_count (slots_in version (slot + 1) file) ≡ taken_count (slots_in version slot file) + (if not (is_free (slot_at version slot file)) then 1 else 0)
taken-more version slot file = ap taken_count (slots_in-more version slot file) ∙ count-push (λ s. not (is_free s)) (slots_in version slot file) (slot_at version slot file)

-- the bodies of a slot have their sizes
abbrev HasBodies : Slot → Type 0
HasBodies (Half a) = length a ≡ 36
HasBodies (Full a b moment) = (length a ≡ 36) × (length b ≡ 64)
HasBodies _ = Unit {0}

bodies-shown : (x y : Bool) (a b m : ℕ) (body_a body_b : List ℕ) → length body_a ≡ 36 → length body_b ≡ 64 → HasBodies (if x then (if y then Full body_a body_b m else Half body_a) else (if y then Damaged a b else Free))
bodies-shown true true a b m body_a body_b is_a is_b = (is_a, is_b)
bodies-shown true false a b m body_a body_b is_a is_b = is_a
bodies-shown false true a b m body_a body_b is_a is_b = tt
bodies-shown false false a b m body_a body_b is_a is_b = tt

length-part : (at n : ℕ) (bytes : List ℕ) → at + n ≤ length bytes → length (part at n bytes) ≡ n
length-part at n bytes fits = omega (arith, length-take n (drop at bytes), length-drop at bytes)

slot_of-bodies : (version : ℕ) (bytes : List ℕ) → 128 ≤ length bytes → HasBodies (slot_of version bytes)
unfolding slot_of
slot_of-bodies version bytes long =
    bodies-shown (get_or bytes 0 0 == 0xB1) (get_or bytes 40 0 == 0xC2) _ _ (moment_of version bytes) _ _ (length-part 4 36 bytes (omega arith)) (length-part 44 64 bytes (omega arith))

slot_at-bodies : (version count slot : ℕ) (file : List ℕ) → length file ≡ file_size version count → slot < count → HasBodies (slot_at version slot file)
slot_at-bodies version count slot file size below =
    slot_of-bodies version _ (omega (arith, least_size version, length-part (slot_start version slot) (slot_size version) file (omega (arith, size, slot-within version slot count below))))

-- a part that is written into a block
record Kept (at gate : ℕ) (body old new : List ℕ) : Type 0 where
  out : Outside at (4 + length body) old new
  gate_is : get_or new at 0 ≡ gate
  body_is : part (at + 4) (length body) new ≡ body

with_part-keeps : (at gate : ℕ) (body old : List ℕ) → at + 4 + length body ≤ length old → Kept at gate body old (with_part at gate body old)
with_part-keeps at gate body old fits =
    let n = length body in
    let mid = written old at (gate ∷ []) in
    let new = written mid (at + 4) body in
    let one = outside_written at 1 (gate ∷ []) old refl (omega arith) in
    let two = outside_written (at + 4) n body mid refl (omega (arith, one.size)) in
    record {
      out = outside_both at (4 + n) old mid new
          (outside_wider at 1 at (4 + n) old mid (omega arith) (omega arith) one)
          (outside_wider (at + 4) n at (4 + n) mid new (omega arith) (omega arith) two);
      gate_is = two.same at (inl (omega arith)) ∙ get_or-written at gate old (omega arith);
      body_is = part-written (at + 4) n body mid (omega (arith, one.size)) refl;
    }

zeros : List ℕ
zeros = replicate 160 0

block-length : (s : Slot) → HasBodies s → length (slot_block s) ≡ 160
unfolding slot_block zeros
block-length Free sizes = refl
block-length (Half a) sizes = (with_part-keeps 0 0xB1 a zeros (omega (arith, sizes))).out.size
block-length (Full a b moment) sizes =
    let one = with_part-keeps 0 0xB1 a zeros (omega (arith, sizes.0)) in
    (with_part-keeps 40 0xC2 b (with_part 0 0xB1 a zeros) (omega (arith, one.out.size, sizes.1))).out.size ∙ one.out.size
block-length (Damaged a b) sizes = refl

zero-byte : (k : ℕ) → get_or zeros k 0 ≡ 0
unfolding zeros
zero-byte k = get_or-zeros 160 k

no-moment : (bytes : List ℕ) → part 108 8 bytes ≡ part 108 8 zeros → moment_of 2 bytes ≡ 0
unfolding moment_of zeros
no-moment bytes is = ap (big_number 8) is

shut-byte : (bytes : List ℕ) (k gate : ℕ) → get_or bytes k 0 ≡ get_or zeros k 0 → 0 < gate → get_or bytes k 0 ≢ gate
shut-byte bytes k gate same some = λ e. let no : 0 ≡ gate = sym (same ∙ zero-byte k) ∙ e in absurd (omega arith)

-- a block shows its slot, with moment 0
block-shows : (s : Slot) → HasBodies s → is_damaged s ≡ false → slot_of 2 (slot_block s) ≡ without_moment s
unfolding slot_block zeros
block-shows Free sizes sound = free_is 2 zeros (shut-byte zeros 0 0xB1 refl (omega arith)) (shut-byte zeros 40 0xC2 refl (omega arith))
block-shows (Half a) sizes sound =
    let new = with_part 0 0xB1 a zeros in
    let one = with_part-keeps 0 0xB1 a zeros (omega (arith, sizes)) in
    half_is 2 new one.gate_is (shut-byte new 40 0xC2 (one.out.same 40 (inr (omega (arith, sizes)))) (omega arith))
    ∙ ap Half (ap (λ (n : ℕ). part 4 n new) (sym sizes) ∙ one.body_is)
block-shows (Full a b moment) sizes sound =
    let mid = with_part 0 0xB1 a zeros in
    let new = with_part 40 0xC2 b mid in
    let one = with_part-keeps 0 0xB1 a zeros (omega (arith, sizes.0)) in
    let two = with_part-keeps 40 0xC2 b mid (omega (arith, one.out.size, sizes.1)) in
    let gate_a = two.out.same 0 (inl (omega arith)) ∙ one.gate_is in
    let body_a : part 4 36 new ≡ a =
    part-outside 40 (4 + length b) 4 36 mid new two.out (inl (omega arith)) ∙ ap (λ (n : ℕ). part 4 n mid) (sym sizes.0) ∙ one.body_is in
    let body_b : part 44 64 new ≡ b = ap (λ (n : ℕ). part 44 n new) (sym sizes.1) ∙ two.body_is in
    let none = no-moment new
    (part-outside 40 (4 + length b) 108 8 mid new two.out (inr (omega (arith, sizes.1)))
    ∙ part-outside 0 (4 + length a) 108 8 zeros mid one.out (inr (omega (arith, sizes.0)))) in
    full_is 2 new gate_a two.gate_is ∙ (λ i. Full (body_a i) (body_b i) (none i))
block-shows (Damaged a b) sizes sound = absurd (false≢true (sym sound))

part-append : (at n : ℕ) (xs ys : List ℕ) → at + n ≤ length xs → part at n (xs ++ ys) ≡ part at n xs
part-append at n xs ys fits = same_lists _ _ (grind (arith, places)) (λ k d below. grind (arith, places))

part-behind : (n : ℕ) (xs ys : List ℕ) → length ys ≡ n → part (length xs) n (xs ++ ys) ≡ ys
part-behind n xs ys size = same_lists _ _ (grind (arith, places)) (λ k d below. grind (arith, places))

part-back : (m at n : ℕ) (xs ys : List ℕ) → length xs ≡ m → part (m + at) n (xs ++ ys) ≡ part at n ys
part-back m at n xs ys size = same_lists _ _ (grind (arith, places)) (λ k d below. grind (arith, places))

-- the blocks of the first slots
module _ (version count : ℕ) (file : List ℕ) (size : length file ≡ file_size version count) where
  blocks : ℕ → List ℕ
  blocks n = flat_map slot_block (slots_in version n file)

  blocks-step : (n : ℕ) → blocks (suc n) ≡ blocks n ++ slot_block (slot_at version n file)
  unfolding blocks
  blocks-step n = sym (flat_map_more slot_block [] (slots_in version n file) (slot_at version n file))

  length-blocks : (n : ℕ) → n ≤ count → length (blocks n) ≡ 160 * n
  unfolding blocks
  length-blocks zero within = refl
  length-blocks (suc n) within =
      let here = block-length (slot_at version n file) (slot_at-bodies version count n file size (omega arith)) in
      ap length (blocks-step n) ∙ length-append (blocks n) (slot_block (slot_at version n file))
      ∙ omega (arith, here, length-blocks n (omega arith))

  block-at : (n slot : ℕ) → n ≤ count → slot < n → part (160 * slot) 160 (blocks n) ≡ slot_block (slot_at version slot file)
  block-at zero slot within below = elim below [ ]
  block-at (suc n) slot within below =
      let last = slot_block (slot_at version n file) in
      let so_far = length-blocks n (omega arith) in
      let is_last = block-length (slot_at version n file) (slot_at-bodies version count n file size (omega arith)) in
      ap (part (160 * slot) 160) (blocks-step n)
      ∙ elim (cases_lt slot n) [
        | inl earlier ↦ part-append (160 * slot) 160 (blocks n) last (omega arith) ∙ block-at n slot (omega arith) earlier
        | inr rest ↦
            let is : slot ≡ n = omega arith in
            ap (λ (k : ℕ). part (160 * k) 160 (blocks n ++ last)) is ∙ ap (λ (k : ℕ). part k 160 (blocks n ++ last)) (sym so_far)
            ∙ part-behind 160 (blocks n) last is_last ∙ ap (λ (k : ℕ). slot_block (slot_at version k file)) (sym is)
      ]

  module _ (header : Header) (fields : HasFields header) (wide : header.version ≡ 2) where
    copy : List ℕ
    copy = header_block 0xA7 header ++ blocks count

    size_of : slot_size header.version ≡ 160
    size_of = ap slot_size wide

    copy-slot : (slot : ℕ) → slot < count → slot_at header.version slot copy ≡ slot_of 2 (slot_block (slot_at version slot file))
    unfolding copy
    copy-slot slot below =
        let rest = blocks count in
        ap (λ (v : ℕ). slot_at v slot (header_block 0xA7 header ++ rest)) wide
        ∙ ap (slot_of 2) (part-back 128 (160 * slot) 160 (header_block 0xA7 header) rest (length-header_block header fields 0xA7) ∙ block-at count slot (omega arith) below)

    -- all slots are sound
    module _ (sound : (slot : ℕ) → slot < count → is_damaged (slot_at version slot file) ≡ false) where
      pub is_copy : IsCopy header count version file (header_block 0xA7 header ++ flat_map slot_block (slots_in version count file))
      unfolding copy blocks
      is_copy = record {
        opens = (is_file_of header fields count (blocks count) (length-blocks count (omega arith) ∙ omega (arith, ap (λ (n : ℕ). n * count) size_of))).opens;
        slots = λ slot below. copy-slot slot below ∙ block-shows (slot_at version slot file) (slot_at-bodies version count slot file size below) (sound slot below);
      }
