-- The faults of settling as faults of the table.
use Rattle.leaf_table.specs.declared.faults.TableFault.{TableFault}
use Rattle.leaf_table.specs.declared.faults.TableFault.TheVariants as table
use Rattle.slot_file.specs.declared.faults.SettleFault.{SettleFault}
use Rattle.slot_file.specs.declared.faults.SettleFault.TheVariants as settle

abbrev pub table_fault : SettleFault → TableFault
table_fault settle.Device = table.Device
table_fault (settle.Damaged slot a b) = table.Damaged slot a b
