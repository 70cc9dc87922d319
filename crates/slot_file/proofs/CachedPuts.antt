-- What a put leaves of a cache in which none was in doubt.
use Rattle.std.proofs.Common.{◌≡◌, ◌<◌, ℕ, List, length, Option, None, Some, Result, Ok, Err, OnOk, is_ok, set, true, false, refl, sym, ◌∙◌, ap, subst}
use Rattle.std.proofs.lemmas.List.{length-set}
use Rattle.disk_trait.specs.Images.{Follows}
use Rattle.disk_trait.specs.declared.disk.Pages as pages
use Rattle.disk_trait.specs.declared.faults.Faults as faults
use Rattle.slot_file.specs.Copies.{is_damaged}
use Rattle.slot_file.specs.Files.{IsHalf, IsPut, with_b}
use Rattle.slot_file.specs.Inside.{IsDoubt, Shows}
use Rattle.slot_file.specs.Layout.{slot_at}
use Rattle.slot_file.specs.Slots.{HasPut, IsHonest, IsTold, MayLeave, Stays, count_of, doubt_of, file_of, header_of, slot_now}
use Rattle.slot_file.specs.State.{HasSlots, IsWhole, slot_in}
use Rattle.slot_file.specs.declared.cache.CachedSlots.{CachedSlots}
use Rattle.slot_file.specs.declared.doubted.Doubted.{Doubted}
use Rattle.slot_file.specs.declared.header.Header.{Header}
use Rattle.slot_file.specs.declared.slot.Slot.{Slot}
use Rattle.slot_file.specs.declared.slots.Doubt.TheVariants.{Nowhere}
use Rattle.slot_file.specs.declared.slots.Slots.{Slots}
use Rattle.slot_file.proofs.Files.{doubt-put, has-sure, put-made, put-shown, renamed, whole-set, with_b-whole}
use Rattle.slot_file.proofs.Sure.{doubt-sure, images-sure, reads-sure}

module _ {D : Type 0} {p : pages.Ghosts D} {f : faults.Ghosts D} where
  -- the same put under another name of what was put
  put-named : {R E : Type 0} (slot : ℕ) (value after : Slot) (old new : Slots D p f) (result : Result R E) → (IsTold old → value ≡ after)
      → HasPut slot value old new result → HasPut slot after old new result
  put-named slot value after old new result same put = record {
    put = λ told. subst (λ (s : Slot). OnOk result (slot_now new slot ≡ s)) (same told) (put.put told);
    file = λ told. subst (λ (s : Slot). IsPut (header_of old).version slot s (file_of old) (file_of new)) (same told) (put.file told);
    images = λ told honest.
        subst (λ (s : Slot). Follows (IsPut (header_of old).version slot s) (MayLeave old) (MayLeave new)) (same told) (put.images told honest);
    stable = put.stable;
    doubt = put.doubt;
  }

  -- a second body that is put into a half slot of a cache
  pub record PutsHalf {R E : Type 0} (self : CachedSlots D p f) (place : ℕ) (after : Slot) (new : Slots D p f) (result : Result R E) : Type 0 where
    pub whole : is_damaged after ≡ false
    pub put : HasPut place after self.slots new result

  pub puts-half : {R E : Type 0} (self : CachedSlots D p f) (place : ℕ) (body : List ℕ) (moment : ℕ) (after : Slot) (new : Slots D p f) (result : Result R E)
      → self.doubt ≡ None → place < length self.cached → IsHalf (slot_in self.cached place)
      → after ≡ with_b (slot_in self.cached place) body moment
      → HasPut place (with_b (slot_now self.slots place) body moment) self.slots new result → PutsHalf self place after new result
  puts-half self place body moment after new result settled within half is put = record {
    whole = ap is_damaged is ∙ with_b-whole (slot_in self.cached place) body moment half;
    put =
        put-named place _ after self.slots new result
        (λ told.
        let has = has-sure (header_of self.slots) self.cached self.doubt (file_of self.slots) (self.reads told) settled in
        ap (λ (s : Slot). with_b s body moment) (has.shows place within) ∙ sym is) put;
  }

  -- what a cache holds of its file besides these slots, with this put in doubt or none
  pub record HoldsPut (new : Slots D p f) (slots : List Slot) (doubt : Option Doubted) : Type 0 where
    pub count : count_of new ≡ length slots
    pub whole : IsWhole slots
    pub in_doubt : IsDoubt (length slots) (doubt_of new) doubt
    pub reads : IsTold new → Shows (header_of new) slots doubt (file_of new)
    pub images : IsTold new → IsHonest new → (image : List ℕ) → MayLeave new image → Shows (header_of new) slots doubt image

  -- a slot of a cache, and what is put there
  module _ (self : CachedSlots D p f) (settled : self.doubt ≡ None) (place : ℕ) (within : place < length self.cached) (after : Slot)
      (whole : is_damaged after ≡ false) (new : Slots D p f) (stays : Stays self.slots new) where
    abbrev header : Header
    header = header_of self.slots

    abbrev items : List Slot
    items = self.cached

    told-before : IsTold new → IsTold self.slots
    told-before told = sym stays.disk.told ∙ told

    has-file : IsTold new → HasSlots header items (file_of self.slots)
    has-file told = has-sure header items self.doubt (file_of self.slots) (self.reads (told-before told)) settled

    pub made-held : {R E : Type 0} (result : Result R E) → is_ok result ≡ true → HasPut place after self.slots new result
        → (list : List Slot) → list ≡ set items place after → HoldsPut new list self.doubt
    made-held (Ok done) is put all same =
        let list = set items place after in
        let nowhere : doubt_of new ≡ Nowhere = put.doubt ∙ self.in_doubt.nowhere settled in
        let made : IsTold new → HasSlots header list (file_of new) = λ told.
        let here = ap (λ (h : Header). slot_at h.version place (file_of new)) (sym stays.header) ∙ put.put (told-before told) in
        put-made header items (file_of self.slots) (has-file told) place after (file_of new) (put.file (told-before told)) within whole here in
        rw same (record {
          count = stays.count ∙ self.count ∙ sym (length-set items place after);
          whole = whole-set items place after self.whole whole;
          in_doubt = doubt-sure (length list) (doubt_of new) self.doubt settled nowhere;
          reads = reads-sure new header stays.header list self.doubt settled made;
          images = images-sure new header stays.header list self.doubt settled made nowhere;
        })
    made-held (Err fault) is put all same = absurd (cc)

    pub doubted-held : {R E : Type 0} (result : Result R E) → is_ok result ≡ false → HasPut place after self.slots new result
        → HoldsPut new items (Some (record { slot = place; after = after }))
    doubted-held (Ok done) is put = absurd (cc)
    doubted-held (Err fault) is put =
        let doubted : Doubted = record { slot = place; after = after } in
        record {
          count = stays.count ∙ self.count;
          whole = self.whole;
          in_doubt = doubt-put (length items) (doubt_of new) doubted put.doubt within whole;
          reads = λ told.
              renamed (header_of new) header items (Some doubted) (file_of new) stays.header
              (put-shown header items (file_of self.slots) (has-file told) place after (file_of new) (put.file (told-before told)) within whole doubted refl refl);
          images = λ told honest image leaves.
              let told_old = told-before told in
              let honest_old = sym stays.disk.honest ∙ honest in
              let from = put.images told_old honest_old image leaves in
              let has = has-sure header items self.doubt from.0 (self.images told_old honest_old from.0 from.1) settled in
              renamed (header_of new) header items (Some doubted) image stays.header
              (put-shown header items from.0 has place after image from.2 within whole doubted refl refl);
        }
