-- How adding a message to a book ends.
use Rattle.std.proofs.Common.{◌≡◌, ℕ, List, IsTrue, Option, Some, None, Result, Ok, Err, refl, sym, ap, ◌∙◌, subst}
use Rattle.std.proofs.lemmas.Bool.{false≢true}
use Rattle.std.specs.Prelude.{IsSome}
use Rattle.approval_book.specs.Listed.{Adds, AddsTo, IsSettled, settled, unsettled}
use Rattle.approval_book.specs.declared.faults.BookFault.{BookFault}
use Rattle.approval_book.specs.declared.faults.BookFault.TheVariants.{Damaged, Device, Full}
use Rattle.opening_journal.specs.declared.faults.Entered.{Entered}
use Rattle.slot_file.specs.Calls.{Settles}
use Rattle.slot_file.specs.Loading.{LoadRefused, damaged as is_damaged, no_memory, other_file}
use Rattle.slot_file.specs.State.{CacheState}
use Rattle.slot_file.specs.declared.faults.CacheLoad.{CacheLoad}
use Rattle.slot_file.specs.declared.faults.CacheLoad.TheVariants as loading
use Rattle.slot_file.specs.declared.faults.Settled.{Settled}
use Rattle.slot_file.specs.declared.faults.Settled.TheVariants.{Made, Nothing, NotMade}
use Rattle.slot_file.specs.Copies.{IsFirstDamaged, taken_count}
use Rattle.slot_file.specs.Layout.{load_fault}
use Rattle.slot_file.specs.declared.header.Header.{Header}
use Rattle.slot_file.specs.declared.header.LoadFault.{LoadFault}
use Rattle.tool_base.specs.Ending.{Ending}
use Rattle.tool_journals.specs.Adding.{AddEnds, FileRun, HasListed, IsStill, Stands, approved, damaged, device, full, no_memory_to_load, not_opened, not_read}
use Rattle.tool_journals.proofs.Listing.{lists_also}
use Rattle.tool_base.specs.Loads.{end_of_slots}
use Rattle.tool_journals.specs.Faults.{end_of_add}

never_some : {A : Type 0} → (x : Option A) → x ≡ None → IsSome x → ⊥
never_some None none some = absurd (false≢true some)
never_some (Some x) none some = cc

-- nothing is in doubt, so nothing is settled
settled_by : (before between : CacheState) → before.doubt ≡ None → (found : Settled) → Settles 3 before (Ok found) between → between.slots ≡ before.slots
settled_by before between none Nothing is = ap (λ (s : CacheState). s.slots) is.1
settled_by before between none Made is = let some = is.1 in cc
settled_by before between none NotMade is = absurd (never_some before.doubt none is.0)

never_unsettled : (before after : CacheState) → before.doubt ≡ None → (fault : BookFault) → IsSettled before (Err fault) after → ⊥
never_unsettled before after none Device is = never_some before.doubt none is.0
never_unsettled before after none (Damaged slot a b) is = let some = is.1 in cc
never_unsettled before after none Full is = is

adds_to : (before : CacheState) (id : List ℕ) (result : Result Entered BookFault) (after : CacheState) → before.doubt ≡ None
    → Adds before id result after → AddsTo before.slots id result after
adds_to before id _ _ none (settled between result after is adds) =
    subst (λ slots. AddsTo slots id result after) (settled_by before between none is.0 is.1) adds
adds_to before id _ _ none (unsettled fault after is) = absurd (never_unsettled before after none fault is)

module _ (failed : Type 0) (file : FileRun) (header : Header) (id : List ℕ) where
  pub add_ends : (before : CacheState) (added : Result Entered BookFault) (count : ℕ) (after : CacheState) (end : Ending) → end ≡ end_of_add added count
      → count ≡ taken_count after.slots → before.doubt ≡ None → HasListed file header before.slots → Adds before id added after
      → (added ≡ Err Device → failed) → Stands file header after → AddEnds failed file header id end
  add_ends before (Ok entered) count after end is counts none listed adds fails stands =
      let added = adds_to before id (Ok entered) after none adds in
      rw (is, counts) (approved before.slots entered after listed added (lists_also before.slots id entered after added) stands)
  add_ends before (Err Device) count after end is counts none listed adds fails stands =
      rw is (device before.slots after listed (adds_to before id (Err Device) after none adds) (fails refl) stands)
  add_ends before (Err (Damaged slot a b)) count after end is counts none listed adds fails stands =
      elim (adds_to before id (Err (Damaged slot a b)) after none adds) [ ]
  add_ends before (Err Full) count after end is counts none listed adds fails stands =
      rw is (full before.slots after listed (adds_to before id (Err Full) after none adds) stands)

slots_why : (header : Header) (count : ℕ) (file : List ℕ) (fault : LoadFault) → LoadRefused header count file (loading.Slots fault) → load_fault header count file ≡ Some fault
slots_why header count file _ (other_file fault is) = is

memory_why : (header : Header) (count : ℕ) (file : List ℕ) → LoadRefused header count file loading.NoMemory → load_fault header count file ≡ None
memory_why header count file (no_memory is) = is

damaged_why : (header : Header) (count : ℕ) (file : List ℕ) (slot a b : ℕ) → LoadRefused header count file (loading.Damaged slot a b)
    → (load_fault header count file ≡ None) × IsFirstDamaged header.version count file slot a b
damaged_why header count file _ _ _ (is_damaged slot a b opens first) = (opens, first)

pub load_ends : (failed : Type 0) (file : FileRun) (header : Header) (id : List ℕ) (fault : CacheLoad) (end : Ending) → end ≡ end_of_slots fault
    → (fault ≡ loading.Device → failed) → IsStill file → (IsTrue file.told → LoadRefused header 1024 file.before fault) → AddEnds failed file header id end
load_ends failed file header id (loading.Slots fault) end is fails still why =
    rw is (not_opened fault (λ told. slots_why header 1024 file.before fault (why told)) still)
load_ends failed file header id loading.NoMemory end is fails still why =
    rw is (no_memory_to_load (λ told. memory_why header 1024 file.before (why told)) still)
load_ends failed file header id (loading.Damaged slot a b) end is fails still why =
    rw is (damaged slot a b (λ told. (damaged_why header 1024 file.before slot a b (why told)).0) (λ told. (damaged_why header 1024 file.before slot a b (why told)).1) still)
load_ends failed file header id loading.Device end is fails still why = rw is (not_read (fails refl) still)

-- a file that is seen from further away: less may be told of it, and more may have been left
pub record IsWithin (one two : FileRun) : Type 0 where
  pub told : IsTrue two.told → IsTrue one.told
  pub honest : IsTrue two.told → IsTrue two.honest → IsTrue one.honest
  pub before : one.before ≡ two.before
  pub after : one.after ≡ two.after
  pub left : IsTrue two.told → IsTrue two.honest → (image : List ℕ) → one.left image → two.left image
  pub leaves : IsTrue two.told → (image : List ℕ) → two.leaves image → one.leaves image

module _ (one two : FileRun) (within : IsWithin one two) where
  still_within : IsStill one → IsStill two
  still_within still = record {
    same = λ told. sym within.after ∙ still.same (within.told told) ∙ within.before;
    images = λ told honest image left. within.left told honest image (still.images (within.told told) (within.honest told honest) image (within.leaves told image left));
  }

  stands_within : (header : Header) (state : CacheState) → Stands one header state → Stands two header state
  stands_within header state stands = record {
    reads = λ told. rw (← within.after) (stands.reads (within.told told));
    images = λ told honest image left. stands.images (within.told told) (within.honest told honest) image (within.leaves told image left);
  }

  pub add_within : (f g : Type 0) → (f → g) → (header : Header) (id : List ℕ) (end : Ending) → AddEnds f one header id end → AddEnds g two header id end
  add_within f g fails header id _ (not_read failed still) = not_read (fails failed) (still_within still)
  add_within f g fails header id _ (not_opened fault why still) = not_opened fault (λ told. rw (← within.before) (why (within.told told))) (still_within still)
  add_within f g fails header id _ (no_memory_to_load opens still) = no_memory_to_load (λ told. rw (← within.before) (opens (within.told told))) (still_within still)
  add_within f g fails header id _ (damaged slot a b opens first still) =
      damaged slot a b (λ told. rw (← within.before) (opens (within.told told))) (λ told. rw (← within.before) (first (within.told told))) (still_within still)
  add_within f g fails header id _ (device slots after listed adds failed stands) =
      device slots after (λ told. rw (← within.before) (listed (within.told told))) adds (fails failed) (stands_within header after stands)
  add_within f g fails header id _ (full slots after listed adds stands) =
      full slots after (λ told. rw (← within.before) (listed (within.told told))) adds (stands_within header after stands)
  add_within f g fails header id _ (approved slots entered after listed adds lists stands) =
      approved slots entered after (λ told. rw (← within.before) (listed (within.told told))) adds lists (stands_within header after stands)
