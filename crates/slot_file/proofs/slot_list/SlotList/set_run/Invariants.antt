use Rattle.std.proofs.Common.{◌≡◌, ◌<◌, ◌+◌, ℕ, length}
use Rattle.slot_file.specs.State.{slot_in}
use Rattle.slot_file.proofs.slot_list.SlotList.set_run.Given as goal

abbrev pub invariant-places : goal.invariant-places
invariant-places l = record {
  before : (slot : ℕ) → slot < l.first → slot_in l.self slot ≡ slot_in l.initial.self slot;
  run : (place : ℕ) → place < l.place → slot_in l.self (l.first + place) ≡ slot_in l.run place;
  count : length l.self ≡ length l.initial.self;
}
