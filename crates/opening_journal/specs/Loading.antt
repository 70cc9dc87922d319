-- The entries of a journal's file, and why it is not loaded.
use Rattle.std.specs.Prelude.{◌≡◌, ℕ, List, [], ◌∷◌, Some, None, take, drop}
use Rattle.lms_bytes.specs.MessageId.{message_id_of}
use Rattle.opening_journal.specs.declared.entry.Entry.{Entry}
use Rattle.opening_journal.specs.declared.entry.Entry.TheVariants.{Bound, Opened}
use Rattle.opening_journal.specs.declared.faults.JournalLoad.{JournalLoad}
use Rattle.opening_journal.specs.declared.faults.JournalLoad.TheVariants as load
use Rattle.slot_file.specs.Copies.{IsFirstDamaged}
use Rattle.slot_file.specs.Layout.{load_fault, slot_at}
use Rattle.slot_file.specs.Logs.{IsWhole, entries_in}
use Rattle.slot_file.specs.declared.header.Header.{Header}
use Rattle.slot_file.specs.declared.header.LoadFault.{LoadFault}
use Rattle.slot_file.specs.declared.slot.Slot.{Slot}
use Rattle.slot_file.specs.declared.slot.Slot.TheVariants.{Free, Half, Full, Damaged}

-- the entries that a slot has: its binding, and then its opening
abbrev pub entries_of_slot : ℕ → ℕ → Slot → List Entry
entries_of_slot n leaf Free = []
entries_of_slot n leaf (Half a) = Bound leaf (message_id_of a) ∷ []
entries_of_slot n leaf (Full a b moment) =
    Bound leaf (message_id_of a) ∷ Opened leaf (message_id_of a) (take n b) (take n (drop 32 b)) moment ∷ []
entries_of_slot n leaf (Damaged a b) = []

-- those of `count` slots, leaf by leaf
abbrev pub entries_of : ℕ → ℕ → (ℕ → Slot) → List Entry
entries_of n count slots = entries_in (entries_of_slot n) count slots

-- those of a file
abbrev pub entries_of_file : ℕ → ℕ → List ℕ → List Entry
entries_of_file n count file = entries_of n count (λ leaf. slot_at 2 leaf file)

-- the file opens as a journal of this header, and no slot of it is damaged
abbrev pub IsJournalFile : Header → ℕ → List ℕ → Type 0
IsJournalFile header count file = IsWhole 2 header count file

-- why a file is not loaded, by the first test that fails
pub data LoadRefused (header : Header) (count : ℕ) (file : List ℕ) : JournalLoad → Type 0 where
  other_file : (fault : LoadFault) → load_fault header count file ≡ Some fault
      → LoadRefused header count file (load.Slots fault)
  damaged : (leaf a b : ℕ) → load_fault header count file ≡ None → IsFirstDamaged 2 count file leaf a b
      → LoadRefused header count file (load.Damaged leaf a b)
  device : LoadRefused header count file load.Device
  no_memory : load_fault header count file ≡ None → LoadRefused header count file load.NoMemory
