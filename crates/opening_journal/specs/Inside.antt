-- How a journal holds its entries beside the slots. Only the type's own facts speak of it.
use Rattle.std.specs.Prelude.{◌≡◌, ◌<◌, ℕ, List, length, Option, None, Some}
use Rattle.opening_journal.specs.Entries.{Adds, IsLegalList, leaf_of, map_of, state_after, state_of_slot}
use Rattle.opening_journal.specs.EntrySlots.{slot_with}
use Rattle.opening_journal.specs.declared.entry.Entry.{Entry}
use Rattle.slot_file.specs.State.{CacheState, slot_in}
use Rattle.slot_file.specs.declared.slot.Slot.{Slot}

-- each slot has what the entries make of its leaf
abbrev pub HaveEntries : ℕ → List Slot → List Entry → Type 0
HaveEntries n slots entries =
    (leaf : ℕ) → leaf < length slots → state_of_slot n (slot_in slots leaf) ≡ map_of entries leaf

-- The slots have the entries, each of which may follow those before it. The put in doubt is that of the entry in doubt,
-- which may follow them all.
pub record IsHeld (n : ℕ) (cache : CacheState) (entries : List Entry) (doubt : Option Entry) : Type 0 where
  pub slots : HaveEntries n cache.slots entries
  pub legal : IsLegalList entries
  pub none : doubt ≡ None → cache.doubt ≡ None
  pub some : (entry : Entry) → doubt ≡ Some entry
      → cache.doubt ≡ Some (record { slot = leaf_of entry; after = slot_with entry })
  pub after : (entry : Entry) → doubt ≡ Some entry → state_of_slot n (slot_with entry) ≡ state_after entry
  pub adds : (entry : Entry) → doubt ≡ Some entry → Adds entry (map_of entries (leaf_of entry))
