-- What loading a table gives.
use Rattle.std.specs.Prelude.{◌≡◌, ◌^◌, None, IsTrue}
use Rattle.coalition_map.specs.Coalitions.{PlanNumbers}
use Rattle.disk_trait.specs.declared.disk.Pages as pages
use Rattle.disk_trait.specs.declared.faults.Faults as faults
use Rattle.leaf_table.specs.Loading.{entries_of}
use Rattle.leaf_table.specs.Table.{disk_of, faults_of, header_of, plan_of, state_of}
use Rattle.leaf_table.specs.declared.table.Table.{Table}
use Rattle.slot_file.specs.State.{HasSlots, slot_in}
use Rattle.slot_file.specs.Disks.{Unwritten}
use Rattle.slot_file.specs.declared.header.Header.{Header}

-- a table with the entries of a disk's file, and none in doubt
pub record IsLoaded {D : Type 0} (p : pages.Ghosts D) (f : faults.Ghosts D) (header : Header) (plan : PlanNumbers)
    (disk : D) (table : Table D p f) : Type 0 where
  pub file : IsTrue (p.told disk) → HasSlots header (state_of table).slots (p.reads disk)
  pub entries : (state_of table).entries ≡ entries_of (2 ^ plan.h) (slot_in (state_of table).slots)
  pub settled : (state_of table).doubt ≡ None
  pub named : header_of table ≡ header
  pub plan_is : plan_of table ≡ plan
  pub unwritten : Unwritten p f disk (disk_of table)
  pub faults : faults_of table ≡ f.count disk
