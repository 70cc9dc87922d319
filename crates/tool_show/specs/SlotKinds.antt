-- What a file of slots is, by the first 32 bytes of its header, and why it does not load.
use Rattle.std.specs.Prelude.{◌≡◌, ◌==◌, ◌<◌, ◌^◌, ℕ, List, length, Option, None, Some, is_some, nat_lt, if◌then◌else◌}
use Rattle.std.specs.Prelude.{false}
use Rattle.lms_bytes.specs.Params.{codes_fault}
use Rattle.lms_bytes.specs.ParameterSets.{lms_row}
use Rattle.slot_file.specs.Copies.{IsFirstDamaged, is_damaged, slots_in}
use Rattle.slot_file.specs.Layout.{header_in, load_fault, slot_at}
use Rattle.slot_file.specs.declared.header.LoadFault.{LoadFault}
use Rattle.slot_file.specs.declared.slot.Slot.{Slot}
use Rattle.tool_base.specs.Loads.{load_fault_number}
use Rattle.tool_show.specs.declared.kind.SlotKind.{SlotKind}
use Rattle.tool_show.specs.declared.kind.SlotKind.TheVariants.{Journal, OldJournal, Table, Book}

-- Version 2 is a journal, version 3 a book. Version 1 is a leaf table if the number is 0, otherwise a journal of the
-- first version.
abbrev pub version_kind : ℕ → ℕ → Option SlotKind
version_kind version number =
    if version == 2 then Some Journal
    else (if version == 3 then Some Book
    else (if version == 1 then (if number == 0 then Some Table else Some OldJournal) else None))

-- the kind of the file, or none: there are 32 bytes, its codes are a parameter set, and its version has a kind
unfoldable pub slot_kind : List ℕ → Option SlotKind
slot_kind bytes =
    if nat_lt (length bytes) 32 then None
    else (if is_some (codes_fault (header_in bytes).lms (header_in bytes).ots) then None
    else version_kind (header_in bytes).version (header_in bytes).number)

-- the leaves of a tree: 2^h for an LMS code of height h
unfoldable pub leaf_count : ℕ → ℕ
leaf_count lms = elim (lms_row lms) [ None ↦ 0 | Some row ↦ 2 ^ row.h ]

-- a book has 1024 slots, and every other file one for each leaf
abbrev pub slot_count : SlotKind → List ℕ → ℕ
slot_count Journal bytes = leaf_count (header_in bytes).lms
slot_count OldJournal bytes = leaf_count (header_in bytes).lms
slot_count Table bytes = leaf_count (header_in bytes).lms
slot_count Book bytes = 1024

-- the slots of the file
abbrev pub slots_of : SlotKind → List ℕ → List Slot
slots_of kind bytes = slots_in (header_in bytes).version (slot_count kind bytes) bytes

-- the file opens as one of its own header, and no slot is damaged
pub record Loads (kind : SlotKind) (bytes : List ℕ) : Type 0 where
  pub opens : load_fault (header_in bytes) (slot_count kind bytes) bytes ≡ None
  pub sound : (slot : ℕ) → slot < slot_count kind bytes
      → is_damaged (slot_at (header_in bytes).version slot bytes) ≡ false

-- why a file does not load, by the first test that fails: it does not open, which is fault 1 or 2 for a file of its own
-- header, or it has a damaged slot, which is fault 6
pub data LoadsNot (kind : SlotKind) (bytes : List ℕ) : ℕ → Type 0 where
  not_open : (fault : LoadFault) → load_fault (header_in bytes) (slot_count kind bytes) bytes ≡ Some fault
      → LoadsNot kind bytes (load_fault_number fault)
  damaged : (slot a b : ℕ) → load_fault (header_in bytes) (slot_count kind bytes) bytes ≡ None
      → IsFirstDamaged (header_in bytes).version (slot_count kind bytes) bytes slot a b → LoadsNot kind bytes 6
