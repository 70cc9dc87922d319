-- Slots that were loaded are those of the file, and a refusal has its cause in the file.
use Rattle.std.proofs.Common.{◌≡◌, ◌≢◌, ◌≤◌, ◌<◌, ◌∙◌, ℕ, zero, suc, List, length, take, None, ap, arith, refl, sym, subst}
use Rattle.std.proofs.Math.Seq.{take-length, take-suc}
use Rattle.slot_file.specs.Loading.{LoadRefused, other_file, no_memory, damaged as damaged_file, device}
use Rattle.slot_file.specs.State.{HasSlots, slot_in}
use Rattle.slot_file.specs.declared.faults.CacheLoad.{CacheLoad}
use Rattle.slot_file.specs.declared.faults.CacheLoad.TheVariants.{Device}
use Rattle.slot_file.specs.Copies.{slots_in}
use Rattle.slot_file.specs.Layout.{header_in, load_fault, slot_at}
use Rattle.slot_file.specs.declared.slot.Slot.{Slot}
use Rattle.slot_file.specs.declared.slot.Slot.TheVariants.{Free}
use Rattle.tool_show.specs.SlotKinds.{Loads, damaged, not_open, slot_count, slots_of}
use Rattle.tool_show.specs.Loading.{IsRefused}
use Rattle.tool_show.specs.declared.kind.SlotKind.{SlotKind}

module _ (version : ℕ) (file : List ℕ) (slots : List Slot)
    (shows : (slot : ℕ) → slot < length slots → slot_at version slot file ≡ slot_in slots slot) where
  first_slots : (count : ℕ) → count ≤ length slots → slots_in version count file ≡ take count slots
  first_slots zero within = refl
  first_slots (suc count) within =
      let below : count < length slots = omega arith in
      let so_far = first_slots count (omega arith) in
      cc (take-suc slots count Free below, so_far, shows count below)

  -- slots by their numbers are the list of them
  all_slots : slots ≡ slots_in version (length slots) file
  all_slots = sym (first_slots (length slots) (omega arith) ∙ take-length slots)

module _ (kind : SlotKind) (bytes : List ℕ) where
  pub loads : (slots : List Slot) → length slots ≡ slot_count kind bytes → HasSlots (header_in bytes) slots bytes → Loads kind bytes
  loads slots size has = record {
    opens = subst (λ (n : ℕ). load_fault (header_in bytes) n bytes ≡ None) size has.opens;
    sound = λ slot below. has.sound slot (omega (arith, below, size));
  }

  pub loaded : (slots : List Slot) → length slots ≡ slot_count kind bytes → HasSlots (header_in bytes) slots bytes → slots ≡ slots_of kind bytes
  loaded slots size has = all_slots (header_in bytes).version bytes slots has.shows ∙ ap (λ (n : ℕ). slots_in (header_in bytes).version n bytes) size

  pub refused : (fault : CacheLoad) → LoadRefused (header_in bytes) (slot_count kind bytes) bytes fault → fault ≢ Device
      → IsRefused kind bytes fault
  refused _ (other_file fault is) other = not_open fault is
  refused _ (no_memory opens) other = tt
  refused _ (damaged_file slot a b opens first) other = damaged slot a b opens first
  refused _ device other = absurd (other refl)
