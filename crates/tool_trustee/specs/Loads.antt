-- Journals that could not be loaded.
use Rattle.opening_journal.specs.declared.faults.JournalLoad.{JournalLoad}
use Rattle.opening_journal.specs.declared.faults.JournalLoad.TheVariants as journal
use Rattle.tool_base.specs.Ending as ending
use Rattle.tool_base.specs.Ending.{Ending}
use Rattle.tool_base.specs.Loads.{load_fault_number}

-- the end of each fault of loading
abbrev pub end_of_journal : JournalLoad → Ending
end_of_journal (journal.Slots fault) = ending.NotLoaded (load_fault_number fault)
end_of_journal (journal.Damaged leaf a b) = ending.NotLoaded 6
end_of_journal journal.Device = ending.DeviceFailed
end_of_journal journal.NoMemory = ending.NoMemory
