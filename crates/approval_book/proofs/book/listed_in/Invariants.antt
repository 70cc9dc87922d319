use Rattle.std.proofs.Common.{◌≡◌, ℕ, List, ◌≤◌, length, take}
use Rattle.trustee_core.specs.Approved.{ids_of, is_in, room_of}
use Rattle.approval_book.specs.Listed.{is_listed}
use Rattle.slot_file.specs.Copies.{taken_count}
use Rattle.slot_file.specs.declared.slot.Slot.{Slot}
use Rattle.trustee_core.specs.declared.approved.Approved.{Approved}
use Rattle.approval_book.proofs.book.listed_in.Given as goal

-- the slots that were looked at are listed
pub record Lists (slots : List Slot) (index : ℕ) (approved : Approved) : Type 0 where
  pub listed : (id : List ℕ) → is_in (ids_of approved) id ≡ is_listed (take index slots) id
  pub few : length (ids_of approved) ≤ taken_count (take index slots)
  pub room : 1024 ≤ room_of approved

abbrev pub invariant-loop-slot : goal.invariant-loop-slot
invariant-loop-slot l = Lists l.slots l.slot-index l.approved
