-- The file of a header and free slots.
use Rattle.std.proofs.Common.{◌≡◌, ◌⊎◌, ℕ, zero, suc, ◌+◌, ◌*◌, ◌-◌, ◌^◌, ◌<◌, ◌≤◌, List, [], ◌∷◌, ◌++◌, length, get_or, take, drop, replicate, refl, sym, ◌∙◌, ap, arith, inl, inr, subst, ⊎_elim, IsTrue, length-append}
use Rattle.std.proofs.lemmas.List.{length-replicate, append-nil, take_at, take-append-le, get_or-append_right}
use Rattle.std.proofs.lemmas.Bool.{cases_eq}
use Rattle.byteorder.specs.Endian.{big_number, big_bytes}
use Rattle.byteorder.specs.Numbers.{big_number-reads_back}
use Rattle.disk_trait.specs.Images.{written, Torn}
use Rattle.disk_trait.specs.declared.disk.Pages as pages
use Rattle.slot_file.specs.declared.header.Header.{Header}
use Rattle.slot_file.specs.declared.slot.Slot.TheVariants.{Free}
use Rattle.disk_trait.specs.Gate.{OpensLast}
use Rattle.slot_file.specs.Fresh.{HasFields, IsBlank, IsNew, IsUnready, NeverHalf}
use Rattle.slot_file.specs.Files.{IsFile}
use Rattle.slot_file.specs.Layout.{part, slot_size, slot_start, header_in, header_block, blank_file, slot_at}
use Rattle.slot_file.proofs.Loads.{opens_file}
use Rattle.slot_file.proofs.Parts.{get_or-part}
use Rattle.slot_file.proofs.Puts.{least_size}
use Rattle.slot_file.proofs.Shown.{free_is}
use Rattle.slot_file.proofs.Shut.{shut_unready}

number-back : (x : ℕ) → x < 2 ^ 32 → big_number 4 (big_bytes 4 x) ≡ x
number-back x fits = ap (big_number 4) (sym (append-nil (big_bytes 4 x))) ∙ big_number-reads_back 4 x [] fits

pub get_or-zeros : (n k : ℕ) → get_or (replicate {A = ℕ} n 0) k 0 ≡ 0
get_or-zeros zero k = refl
get_or-zeros (suc n) zero = refl
get_or-zeros (suc n) (suc k) = get_or-zeros n k

module _ (header : Header) (fields : HasFields header) where
  pub header-names : (gate : ℕ) (rest : List ℕ) → header_in (header_block gate header ++ rest) ≡ header
  unfolding header_in header_block
  header-names gate rest =
      let lms = number-back header.lms fields.lms in
      let ots = number-back header.ots fields.ots in
      let id : take 16 (header.id ++ replicate 96 0 ++ rest) ≡ header.id =
      take-append-le 16 (header.id ++ replicate 96 0) rest (omega (arith, length-append header.id (replicate {A = ℕ} 96 0), fields.id))
      ∙ take_at header.id (replicate 96 0) 16 fields.id in
      (λ i. record { version = header.version; number = header.number; lms = lms i; ots = ots i; id = id i })

  pub length-header_block : (gate : ℕ) → length (header_block gate header) ≡ 128
  unfolding header_block
  length-header_block gate = omega (arith, length-append header.id (replicate {A = ℕ} 96 0), fields.id, length-replicate {A = ℕ} 96 0)

  gate-first : (gate : ℕ) (rest : List ℕ) → get_or (header_block gate header ++ rest) 0 0 ≡ gate
  unfolding header_block
  gate-first gate rest = refl

  -- a file with this header and these slots
  pub is_file_of : (count : ℕ) (slots : List ℕ) → length slots ≡ slot_size header.version * count → IsFile header count (header_block 0xA7 header ++ slots)
  is_file_of count slots size =
      opens_file header count (header_block 0xA7 header ++ slots)
      (length-append (header_block 0xA7 header) slots ∙ omega (arith, length-header_block 0xA7)) (gate-first 0xA7 slots) (header-names 0xA7 slots)

  free_slots : (count slot : ℕ) → slot < count → slot_at header.version slot (blank_file header count) ≡ Free
  free_slots count slot below =
      let size = slot_size header.version in
      let start = slot_start header.version slot in
      let least = least_size header.version in
      let zeros : List ℕ = replicate (size * count) 0 in
      let at : (k j : ℕ) → k < size → start + k ≡ j → 128 ≤ j → get_or (part start size (blank_file header count)) k 0 ≡ 0 = λ k j small is behind.
      get_or-part start size k j 0 (blank_file header count) small is
      ∙ get_or-append_right (header_block 0xA7 header) zeros 128 j 0 (length-header_block 0xA7) behind
      ∙ get_or-zeros (size * count) (j - 128) in
      let bytes = part start size (blank_file header count) in
      free_is header.version bytes
      (λ e. let no : ◌≡◌ {A = ℕ} 0 0xB1 = sym (at 0 start (omega arith) (omega arith) (omega arith)) ∙ e in absurd (omega arith))
      (λ e. let no : ◌≡◌ {A = ℕ} 0 0xC2 = sym (at 40 (start + 40) (omega arith) refl (omega arith)) ∙ e in absurd (omega arith))

  pub is_blank : (count : ℕ) → IsBlank header count (blank_file header count)
  is_blank count = record {
    opens = (is_file_of count (replicate (slot_size header.version * count) 0) (length-replicate (slot_size header.version * count) 0)).opens;
    free = free_slots count;
  }

-- the gate is opened, or any other byte stands there
pub opened : (header : Header) (slots : List ℕ) → written (header_block 0 header ++ slots) 0 (0xA7 ∷ []) ≡ header_block 0xA7 header ++ slots
unfolding header_block
opened header slots = refl

pub any-gate : (header : Header) (slots image : List ℕ) → Torn 0 1 (header_block 0 header ++ slots) image → IsUnready image ⊎ (image ≡ header_block 0xA7 header ++ slots)
unfolding header_block
any-gate header slots [] torn = inl (inl (omega arith))
any-gate header slots (gate ∷ image) torn = elim (cases_eq gate 0xA7) [
  | inl is ↦ inr (λ i. is i ∷ torn.after i)
  | inr shut ↦ inl (inr shut)
]

pub rest-same : (header : Header) (slots image : List ℕ) → Torn 0 1 (header_block 0 header ++ slots) image → drop 1 image ≡ drop 1 (header_block 0xA7 header ++ slots)
unfolding header_block
rest-same header slots image torn = torn.after

closed-shut : (header : Header) (slots : List ℕ) → get_or (header_block 0 header ++ slots) 0 0 ≡ 0
unfolding header_block
closed-shut header slots = refl

-- a file whose gate is still closed
pub closed_unready : (header : Header) (slots file : List ℕ) → file ≡ header_block 0 header ++ slots → IsUnready file
closed_unready header slots file is = shut_unready file (ap (λ (l : List ℕ). get_or l 0 0) is ∙ closed-shut header slots)

-- the blank file is new
pub is_new : (header : Header) → HasFields header → (count : ℕ) (file : List ℕ) → file ≡ blank_file header count → IsNew header count file
is_new header fields count file is = (is, subst (IsBlank header count) (sym is) (is_blank header fields count))

-- A file that is whole except for its gate, which is opened last: a crash or a read never shows half of it.
pub never-half : {D : Type 0} (p : pages.Ghosts D) (header : Header) (rest : List ℕ) (whole : List ℕ → Type 0) (old mid new : D)
    → p.told mid ≡ p.told old → p.honest mid ≡ p.honest old
    → (IsTrue (p.told old) → p.reads mid ≡ header_block 0 header ++ rest) → whole (header_block 0xA7 header ++ rest)
    → (IsTrue (p.told old) → IsTrue (p.honest old) → (image : List ℕ) → p.may_leave mid image → IsUnready image)
    → OpensLast p mid new → NeverHalf p whole old new
never-half p header rest whole old mid new told_is honest_is closed is_whole unready last =
    let torn_from : IsTrue (p.told old) → (image : List ℕ) → Torn 0 1 (p.reads mid) image → Torn 0 1 (header_block 0 header ++ rest) image = λ told image.
    subst (λ (l : List ℕ). Torn 0 1 l image) (closed told) in
    record {
      images = λ told honest image leaves.
          ⊎_elim (λ before. inl (unready told honest image before))
          (λ torn. ⊎_elim inl (λ all. inr (subst whole (sym all) is_whole)) (any-gate header rest image (torn_from told image torn)))
          (last.images (told_is ∙ told) (honest_is ∙ honest) image leaves);
      shows = λ told honest.
          ⊎_elim (λ same. inl (closed_unready header rest (p.reads new) (same ∙ closed told)))
          (λ all. inr (header_block 0xA7 header ++ rest, is_whole, λ image leaves. rest-same header rest image (torn_from told image (all image leaves))))
          (last.shows (told_is ∙ told) (honest_is ∙ honest));
    }
