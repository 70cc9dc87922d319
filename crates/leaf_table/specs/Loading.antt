-- The entries of a table's file, and which files are tables.
use Rattle.std.specs.Prelude.{ℕ, List}
use Rattle.leaf_table.specs.Slots.{entries_of_slot}
use Rattle.leaf_table.specs.declared.lease.Lease.{Lease}
use Rattle.slot_file.specs.Logs.{IsWhole, entries_in}
use Rattle.slot_file.specs.declared.header.Header.{Header}
use Rattle.slot_file.specs.declared.slot.Slot.{Slot}

-- the entries of `count` slots, leaf by leaf
abbrev pub entries_of : ℕ → (ℕ → Slot) → List Lease
entries_of count slots = entries_in entries_of_slot count slots

-- the file opens as a table of this header, and no slot of it is damaged
abbrev pub IsTableFile : Header → ℕ → List ℕ → Type 0
IsTableFile header count file = IsWhole 1 header count file
