-- What a cache of slots stands for, and the files that stand for it.
use Rattle.std.specs.Prelude.{◌≡◌, ◌⊎◌, ◌<◌, ℕ, List, length, slice_index_or, slice_set, Option, None, Some, false}
use Rattle.slot_file.specs.declared.doubted.Doubted.{Doubted}
use Rattle.slot_file.specs.Copies.{is_damaged}
use Rattle.slot_file.specs.Layout.{load_fault, slot_at}
use Rattle.slot_file.specs.declared.header.Header.{Header}
use Rattle.slot_file.specs.declared.slot.Slot.{Slot}
use Rattle.slot_file.specs.declared.slot.Slot.TheVariants.{Free}

-- the slots, and a put in doubt, which was made or was not: the slots are those before it
pub record CacheState : Type 0 where
  pub slots : List Slot
  pub doubt : Option Doubted

-- these slots, and no put in doubt
abbrev pub settled_with : List Slot → CacheState
settled_with slots = record { slots = slots; doubt = None }

-- a slot by its number
abbrev pub slot_in : List Slot → ℕ → Slot
slot_in slots slot = slice_index_or slots slot Free

-- no slot is damaged
abbrev pub IsWhole : List Slot → Type 0
IsWhole slots = (slot : ℕ) → slot < length slots → is_damaged (slot_in slots slot) ≡ false

-- the slots once the put in doubt was made
abbrev pub with_made : List Slot → Doubted → List Slot
with_made slots doubted = slice_set slots doubted.slot doubted.after

-- a file that opens with this header and has just these slots, of which none is damaged
pub record HasSlots (header : Header) (slots : List Slot) (file : List ℕ) : Type 0 where
  pub opens : load_fault header (length slots) file ≡ None
  pub shows : (slot : ℕ) → slot < length slots → slot_at header.version slot file ≡ slot_in slots slot
  pub sound : (slot : ℕ) → slot < length slots → is_damaged (slot_at header.version slot file) ≡ false

-- a file that stands for the state: it has the slots, or has them with the put in doubt made
abbrev pub StandsFor : Header → CacheState → List ℕ → Type 0
StandsFor header state file =
    HasSlots header state.slots file
    ⊎ ((doubted : Doubted) × (state.doubt ≡ Some doubted) × HasSlots header (with_made state.slots doubted) file)
