-- What copying the slots of a file does.
use Rattle.std.specs.Prelude.{◌≡◌, ◌≢◌, ◌⊎◌, ◌<◌, ◌+◌, ◌++◌, ℕ, Bool, false, not, List, length, IsTrue}
use Rattle.std.specs.List.{flat_map}
use Rattle.disk_trait.specs.Faults.{Rose}
use Rattle.disk_trait.specs.Images.{Only}
use Rattle.disk_trait.specs.declared.disk.Pages as pages
use Rattle.disk_trait.specs.declared.faults.Faults as faults
use Rattle.slot_file.specs.Copies.{IsCopy, IsFirstDamaged, is_damaged, is_free, slot_block, slots_in, taken_count}
use Rattle.disk_trait.specs.SameDisk.{SameDisk}
use Rattle.slot_file.specs.Layout.{header_block, slot_start}
use Rattle.slot_file.specs.Slots.{IsTold, OnlyLooked, faults_of, file_of, header_of, slot_now}
use Rattle.slot_file.specs.declared.copies.CopyFault.{CopyFault}
use Rattle.slot_file.specs.declared.copies.CopyFault.TheVariants.{Damaged}
use Rattle.slot_file.specs.declared.header.Header.{Header}
use Rattle.slot_file.specs.declared.slot.Slot.{Slot}
use Rattle.slot_file.specs.declared.slot.Slot.TheVariants as slot
use Rattle.slot_file.specs.declared.slots.Slots.{Slots}

abbrev pub IsDamaged : CopyFault → Type 0
IsDamaged (Damaged slot a b) = Unit {0}
IsDamaged fault = ⊥

-- a slot that is refused is damaged, if the slots are told
abbrev pub FindsSlot : Type 0 → ℕ → Slot → CopyFault → Type 0
FindsSlot told place found (Damaged held a b) = told → (held ≡ place) × (found ≡ slot.Damaged a b)
FindsSlot told place found fault = Unit {0}

module _ {D E : Type 0} (p : pages.Ghosts D) (f : faults.Ghosts D) {q : pages.Ghosts E} {h : faults.Ghosts E} where
  -- the other file is only looked at, and Device comes if the count of one of the disks rose and not otherwise
  pub record CopyCalls {R : Type 0} (old new : D) (from now : Slots E q h) (answer device : R) : Type 0 where
    pub disk : SameDisk p f old new
    pub looked : OnlyLooked from now
    pub failed : answer ≡ device → Rose (f.count old) (f.count new) ⊎ Rose (faults_of from) (faults_of now)
    pub others : answer ≢ device → (f.count new ≡ f.count old) × (faults_of now ≡ faults_of from)

module _ {E : Type 0} {q : pages.Ghosts E} {h : faults.Ghosts E} (from : Slots E q h) where
  -- the slots of the other file
  abbrev pub slots_of : ℕ → List Slot
  slots_of count = slots_in (header_of from).version count (file_of from)

  -- the damaged slot is the first such of all its slots
  abbrev pub FindsDamaged : ℕ → CopyFault → Type 0
  FindsDamaged count (Damaged slot a b) =
      IsTold from → IsFirstDamaged (header_of from).version count (file_of from) slot a b
  FindsDamaged count fault = Unit {0}

  -- `taken` of its slots are not free, and none is damaged
  pub record AreTaken (count taken : ℕ) : Type 0 where
    pub taken_are : IsTold from → taken ≡ taken_count (slots_of count)
    pub sound : IsTold from → (slot : ℕ) → slot < count → is_damaged (slot_now from slot) ≡ false

  module _ {D : Type 0} (p : pages.Ghosts D) where
    -- a slot was copied to the end of the new file; it is taken, or is free
    pub record CopiesSlot (slot : ℕ) (old new : D) (taken : Bool) : Type 0 where
      pub bytes : IsTrue (p.told old) → IsTold from → p.reads new ≡ p.reads old ++ slot_block (slot_now from slot)
      pub end : IsTrue (p.told old) → length (p.reads new) ≡ slot_start 2 (slot + 1)
      pub taken_is : IsTold from → taken ≡ not (is_free (slot_now from slot))
      pub sound : IsTold from → is_damaged (slot_now from slot) ≡ false

    -- all slots were copied to the end of the new file
    pub record CopiesSlots (count : ℕ) (old new : D) (taken : ℕ) : Type 0 where
      pub bytes : IsTrue (p.told old) → IsTold from
          → p.reads new ≡ p.reads old ++ flat_map slot_block (slots_of count)
      pub are : AreTaken count taken

    -- the copy except for its gate, which is closed
    pub record IsClosedCopy (header : Header) (count : ℕ) (old new : D) (taken : ℕ) : Type 0 where
      pub closed : IsTrue (p.told old) → IsTold from
          → p.reads new ≡ header_block 0 header ++ flat_map slot_block (slots_of count)
      pub copy : IsTold from → IsCopy header count (header_of from).version (file_of from)
          (header_block 0xA7 header ++ flat_map slot_block (slots_of count))
      pub are : AreTaken count taken

    -- the copy, stable
    pub record IsStableCopy (header : Header) (count : ℕ) (old new : D) (taken : ℕ) : Type 0 where
      pub copied : IsTrue (p.told old) → IsTold from
          → IsCopy header count (header_of from).version (file_of from) (p.reads new)
      pub are : AreTaken count taken
      pub stable : IsTrue (p.told old) → IsTrue (p.honest old) → Only (p.reads new) (p.may_leave new)
