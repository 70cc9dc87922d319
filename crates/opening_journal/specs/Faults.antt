-- The faults of the slots as faults of the journal.
use Rattle.opening_journal.specs.declared.faults.JournalFault.{JournalFault}
use Rattle.opening_journal.specs.declared.faults.JournalFault.TheVariants as journal
use Rattle.opening_journal.specs.declared.faults.JournalLoad.{JournalLoad}
use Rattle.opening_journal.specs.declared.faults.JournalLoad.TheVariants as load
use Rattle.slot_file.specs.declared.faults.CacheLoad.{CacheLoad}
use Rattle.slot_file.specs.declared.faults.CacheLoad.TheVariants as cache
use Rattle.slot_file.specs.declared.faults.SettleFault.{SettleFault}
use Rattle.slot_file.specs.declared.faults.SettleFault.TheVariants as settle

abbrev pub journal_fault : SettleFault → JournalFault
journal_fault settle.Device = journal.Device
journal_fault (settle.Damaged slot a b) = journal.Damaged slot a b

abbrev pub journal_load : CacheLoad → JournalLoad
journal_load (cache.Slots fault) = load.Slots fault
journal_load cache.NoMemory = load.NoMemory
journal_load (cache.Damaged slot a b) = load.Damaged slot a b
journal_load cache.Device = load.Device
