-- The slots of a journal's entries.
use Rattle.std.specs.Prelude.{◌-◌, ℕ, List, ◌++◌, length, replicate}
use Rattle.lms_bytes.specs.MessageId.{message_id_bytes}
use Rattle.opening_journal.specs.declared.entry.Entry.{Entry}
use Rattle.opening_journal.specs.declared.entry.Entry.TheVariants.{Bound, Opened}
use Rattle.slot_file.specs.declared.slot.Slot.{Slot}
use Rattle.slot_file.specs.declared.slot.Slot.TheVariants.{Free, Half, Full}

-- a value filled up with zeros to 32 bytes
abbrev pub filled : List ℕ → List ℕ
filled value = value ++ replicate (32 - length value) 0

-- an entry's slot before it, and once it was put
abbrev pub slot_before : Entry → Slot
slot_before (Bound leaf message) = Free
slot_before (Opened leaf message c digest moment) = Half (message_id_bytes message)

abbrev pub slot_with : Entry → Slot
slot_with (Bound leaf message) = Half (message_id_bytes message)
slot_with (Opened leaf message c digest moment) = Full (message_id_bytes message) (filled c ++ filled digest) moment
