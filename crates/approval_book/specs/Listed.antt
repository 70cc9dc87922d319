-- What a book lists: the message ids of its slots.
use Rattle.std.specs.Prelude.{◌≡◌, ◌<◌, ℕ, List, length, slice_set, position, Bool, true, false, Option, None, Some}
use Rattle.std.specs.Prelude.{IsTrue, nat_eq}
use Rattle.std.specs.Cmp.Lexicographic.{pointwise}
use Rattle.std.specs.List.{list_any}
use Rattle.std.specs.Prelude.{Result, Ok, Err}
use Rattle.approval_book.specs.declared.faults.BookFault.{BookFault}
use Rattle.approval_book.specs.declared.faults.BookFault.TheVariants.{Device, Damaged, Full}
use Rattle.opening_journal.specs.declared.faults.Entered.{Entered}
use Rattle.opening_journal.specs.declared.faults.Entered.TheVariants.{New, Old}
use Rattle.slot_file.specs.Calls.{Settles}
use Rattle.slot_file.specs.State.{CacheState, settled_with, slot_in}
use Rattle.slot_file.specs.declared.doubted.Doubted.{Doubted}
use Rattle.slot_file.specs.declared.faults.SettleFault.{SettleFault}
use Rattle.slot_file.specs.declared.faults.SettleFault.TheVariants as settling
use Rattle.slot_file.specs.declared.faults.Settled.{Settled}
use Rattle.slot_file.specs.Copies.{is_free}
use Rattle.slot_file.specs.declared.slot.Slot.{Slot}
use Rattle.slot_file.specs.declared.slot.Slot.TheVariants as slot

-- this project's profile: a slot that is neither free nor damaged lists its body A, a message id of 36 bytes
abbrev pub lists : Slot → List ℕ → Bool
lists slot.Free id = false
lists (slot.Half a) id = pointwise nat_eq id a
lists (slot.Full a b moment) id = pointwise nat_eq id a
lists (slot.Damaged a b) id = false

-- whether one of the slots lists the id
abbrev pub is_listed : List Slot → List ℕ → Bool
is_listed slots id = list_any (λ slot. lists slot id) slots

-- the least free slot
abbrev pub first_free : List Slot → Option ℕ
first_free slots = position is_free slots

-- What a settled book does when an id has to be listed: the id is there, or there is room for it and it is put into the
-- least free slot, or all slots are taken.
pub data AddsTo (slots : List Slot) (id : List ℕ) : Result Entered BookFault → CacheState → Type 0 where
  old : IsTrue (is_listed slots id) → AddsTo slots id (Ok Old) (settled_with slots)
  new : (place : ℕ) → is_listed slots id ≡ false → first_free slots ≡ Some place
      → AddsTo slots id (Ok New) (settled_with (slice_set slots place (slot.Half id)))
  device : (place : ℕ) → is_listed slots id ≡ false → first_free slots ≡ Some place
      → AddsTo slots id (Err Device)
      (record { slots = slots; doubt = Some (record { slot = place; after = slot.Half id }) })
  full : is_listed slots id ≡ false → first_free slots ≡ None → AddsTo slots id (Err Full) (settled_with slots)

-- what settling does: the id in doubt is listed or is not, or is still in doubt
abbrev pub IsSettled : CacheState → Result (Unit {0}) BookFault → CacheState → Type 0
IsSettled before (Ok done) after = (found : Settled) × Settles 3 before (Ok found) after
IsSettled before (Err Device) after = Settles 3 before (Err settling.Device) after
IsSettled before (Err (Damaged place a b)) after = Settles 3 before (Err (settling.Damaged place a b)) after
IsSettled before (Err Full) after = ⊥

-- one call: a put in doubt is settled first
pub data Adds (before : CacheState) (id : List ℕ) : Result Entered BookFault → CacheState → Type 0 where
  settled : (between : CacheState) (result : Result Entered BookFault) (after : CacheState)
      → IsSettled before (Ok tt) between → AddsTo between.slots id result after → Adds before id result after
  unsettled : (fault : BookFault) (after : CacheState) → IsSettled before (Err fault) after
      → Adds before id (Err fault) after

abbrev pub is_half : Slot → Bool
is_half slot.Free = false
is_half (slot.Half a) = true
is_half (slot.Full a b moment) = false
is_half (slot.Damaged a b) = false

-- one of the slots, which is free
pub record IsFreeIn (slots : List Slot) (place : ℕ) : Type 0 where
  pub inside : place < length slots
  pub free : slot_in slots place ≡ slot.Free

-- a put in doubt lists an id in a free slot
pub record IsAdding (slots : List Slot) (put : Doubted) : Type 0 where
  pub half : is_half put.after ≡ true
  pub place : IsFreeIn slots put.slot

-- why a book is not settled
abbrev pub unsettled_by : SettleFault → BookFault
unsettled_by settling.Device = Device
unsettled_by (settling.Damaged place a b) = Damaged place a b
