-- Lists of slots of which only the first are in memory.
use Rattle.std.specs.Prelude.{◌≡◌, ℕ, ◌-◌, List, ◌++◌, length, replicate}
use Rattle.slot_file.specs.declared.slot.Slot.{Slot}
use Rattle.slot_file.specs.declared.slot.Slot.TheVariants.{Free}

-- the slots behind the front are free
abbrev pub filled : ℕ → List Slot → List Slot
filled count front = front ++ replicate (count - length front) Free

abbrev pub IsFront : List Slot → List Slot → Type 0
IsFront slots front = slots ≡ filled (length slots) front
