use Rattle.std.proofs.Common.{◌≡◌, ◌<◌, ◌≤◌, ◌-◌, ℕ, length, false}
use Rattle.slot_file.specs.State.{slot_in}
use Rattle.slot_file.specs.Copies.{is_damaged}
use Rattle.slot_file.specs.Reading.{LooksOnly}
use Rattle.slot_file.specs.Slots.{IsTold, faults_of, slot_now}
use Rattle.slot_file.proofs.reading.read_slots.Given as goal

abbrev pub invariant-runs : goal.invariant-runs
invariant-runs g l = record {
  within : l.first ≤ length l.initial.out;
  shows : IsTold l.initial.slots → (slot : ℕ) → slot < l.first → slot_now l.initial.slots slot ≡ slot_in l.out slot;
  whole : (slot : ℕ) → slot < l.first → is_damaged (slot_in l.out slot) ≡ false;
  size : length l.out ≡ length l.initial.out;
  looks : LooksOnly l.initial.slots l.slots;
  count : faults_of l.slots ≡ faults_of l.initial.slots;
}

abbrev pub decreases-runs : goal.decreases-runs
decreases-runs g l = length l.initial.out - l.first
