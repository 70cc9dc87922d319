-- Why the slots of a file are not loaded. Only contracts inside the crate speak of it.
use Rattle.std.specs.Prelude.{ℕ, List}
use Rattle.slot_file.specs.declared.faults.CacheLoad.{CacheLoad}
use Rattle.slot_file.specs.declared.faults.CacheLoad.TheVariants.{Slots, Damaged, NoMemory, Device}
use Rattle.tool_base.specs.Loads.{load_fault_number}
use Rattle.tool_show.specs.SlotKinds.{LoadsNot}
use Rattle.tool_show.specs.declared.kind.SlotKind.{SlotKind}

-- it does not open, or has a damaged slot, or there was no memory
abbrev pub IsRefused : SlotKind → List ℕ → CacheLoad → Type 0
IsRefused kind bytes (Slots fault) = LoadsNot kind bytes (load_fault_number fault)
IsRefused kind bytes (Damaged slot a b) = LoadsNot kind bytes 6
IsRefused kind bytes NoMemory = Unit {0}
IsRefused kind bytes Device = ⊥
