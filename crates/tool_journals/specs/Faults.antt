-- Faults of slot files as ends.
use Rattle.std.specs.Prelude.{ℕ, Result, Ok, Err}
use Rattle.approval_book.specs.declared.faults.BookFault.{BookFault}
use Rattle.approval_book.specs.declared.faults.BookFault.TheVariants as adding
use Rattle.opening_journal.specs.declared.faults.Entered.{Entered}
use Rattle.slot_file.specs.declared.copies.CopyFault.{CopyFault}
use Rattle.slot_file.specs.declared.copies.CopyFault.TheVariants as copying
use Rattle.slot_file.specs.declared.header.LoadFault.{LoadFault}
use Rattle.slot_file.specs.declared.header.LoadFault.TheVariants.{Length, NotReady, Version, Foreign, Device}
use Rattle.slot_file.specs.declared.prepared.PrepareFault.{PrepareFault}
use Rattle.slot_file.specs.declared.prepared.PrepareFault.TheVariants as preparing
use Rattle.tool_base.specs.Ending as ending
use Rattle.tool_base.specs.Ending.{Ending}

-- the end if a blank file was not made on a disk
abbrev pub end_of_prepare : PrepareFault → Ending
end_of_prepare (preparing.NotEmpty length) = ending.NotLoaded 7
end_of_prepare preparing.Device = ending.DeviceFailed

-- the end if a file of slots was not opened
abbrev pub end_of_load : LoadFault → Ending
end_of_load (Length got want) = ending.NotLoaded 1
end_of_load (NotReady gate) = ending.NotLoaded 2
end_of_load (Version got) = ending.NotLoaded 3
end_of_load (Foreign kept) = ending.NotLoaded 4
end_of_load Device = ending.DeviceFailed

-- the end if slots were not copied
abbrev pub end_of_copy : CopyFault → Ending
end_of_copy (copying.NotEmpty length) = ending.NotLoaded 7
end_of_copy (copying.Damaged slot a b) = ending.NotLoaded 6
end_of_copy copying.Device = ending.DeviceFailed

-- the end after a message was added to a book, which has that many slots that are not free
abbrev pub end_of_add : Result Entered BookFault → ℕ → Ending
end_of_add (Ok entered) slots = ending.Approved slots
end_of_add (Err adding.Device) slots = ending.DeviceFailed
end_of_add (Err (adding.Damaged slot a b)) slots = ending.NotLoaded 6
end_of_add (Err adding.Full) slots = ending.BookFull
