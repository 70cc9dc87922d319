-- Logs of entries, each of one slot, that a file of slots keeps.
use Rattle.std.specs.Prelude.{◌≡◌, ◌<◌, ℕ, ◌==◌, List, length, take, slice_index_or, sum_by, None, false, if◌then◌else◌}
use Rattle.std.specs.List.{flat_map, range_with_len}
use Rattle.slot_file.specs.Copies.{is_damaged}
use Rattle.slot_file.specs.Layout.{load_fault, slot_at}
use Rattle.slot_file.specs.declared.header.Header.{Header}
use Rattle.slot_file.specs.declared.slot.Slot.{Slot}
use Rattle.slot_file.specs.declared.slot.Slot.TheVariants.{Free, Half, Full, Damaged}

-- what one more entry makes of all slots: its own is what it leaves there, and each other is as before
abbrev pub with_entry : {E S : Type 0} → (E → ℕ) → (E → S) → (ℕ → S) → E → ℕ → S
with_entry place after map entry slot = if slot == place entry then after entry else map slot

module _ {E : Type 0} where
  -- each entry of a log may follow those before it
  abbrev pub IsLegal : (List E → E → Type 0) → List E → Type 0
  IsLegal may_follow entries = (place : ℕ) (none : E) → place < length entries
      → may_follow (take place entries) (slice_index_or entries place none)

  -- the entries of that many slots, one slot after the other, given a function for the entries that a slot has
  unfoldable pub entries_in : (ℕ → Slot → List E) → ℕ → (ℕ → Slot) → List E
  entries_in of_slot count slots = flat_map (λ slot. of_slot slot (slots slot)) (range_with_len 0 count)

-- how many entries may still be made of a slot, one for each of its bodies, and of all slots
abbrev pub room_of : Slot → ℕ
room_of Free = 2
room_of (Half a) = 1
room_of (Full a b moment) = 0
room_of (Damaged a b) = 2

abbrev pub room_in : List Slot → ℕ
room_in slots = sum_by room_of slots

-- the file opens, and no slot of it is damaged
pub record IsWhole (version : ℕ) (header : Header) (count : ℕ) (file : List ℕ) : Type 0 where
  pub opens : load_fault header count file ≡ None
  pub whole : (slot : ℕ) → slot < count → is_damaged (slot_at version slot file) ≡ false
