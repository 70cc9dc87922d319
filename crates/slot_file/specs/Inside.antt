-- How a cache holds its file of slots and the doubt. Only the type's own facts speak of it.
use Rattle.std.specs.Prelude.{◌≡◌, ◌≢◌, ◌<◌, ℕ, List, length, Option, None, Some, false}
use Rattle.slot_file.specs.State.{slot_in}
use Rattle.slot_file.specs.declared.doubted.Doubted.{Doubted}
use Rattle.slot_file.specs.Copies.{is_damaged}
use Rattle.slot_file.specs.Doubts.{looked, settled}
use Rattle.slot_file.specs.Layout.{load_fault, slot_at}
use Rattle.slot_file.specs.declared.header.Header.{Header}
use Rattle.slot_file.specs.declared.slot.Slot.{Slot}
use Rattle.slot_file.specs.declared.slots.Doubt.{Doubt}
use Rattle.slot_file.specs.declared.slots.Doubt.TheVariants.{Nowhere}

-- No slot is in doubt if no put is. If one is, its slot is the only one: once that is settled and looked at, none is.
pub record IsDoubt (count : ℕ) (doubt : Doubt) (doubted : Option Doubted) : Type 0 where
  pub nowhere : doubted ≡ None → doubt ≡ Nowhere
  pub within : (put : Doubted) → doubted ≡ Some put → put.slot < count
  pub whole : (put : Doubted) → doubted ≡ Some put → is_damaged put.after ≡ false
  pub settles : (put : Doubted) → doubted ≡ Some put → looked put.slot (settled doubt) ≡ Nowhere

-- The file opens, no slot is damaged, and each slot is as it is kept, except that the slot of a put in doubt may be as
-- the put makes it.
pub record Shows (header : Header) (slots : List Slot) (doubt : Option Doubted) (file : List ℕ) : Type 0 where
  pub opens : load_fault header (length slots) file ≡ None
  pub sound : (slot : ℕ) → slot < length slots → is_damaged (slot_at header.version slot file) ≡ false
  pub sure : (slot : ℕ) → slot < length slots → ((put : Doubted) → doubt ≡ Some put → slot ≢ put.slot)
      → slot_at header.version slot file ≡ slot_in slots slot
  pub unsure : (put : Doubted) → doubt ≡ Some put → slot_at header.version put.slot file ≢ slot_in slots put.slot
      → slot_at header.version put.slot file ≡ put.after
