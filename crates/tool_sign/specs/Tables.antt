-- Leaf tables that a command signs with, by their files.
use Rattle.std.specs.Prelude.{◌≡◌, ◌^◌, ℕ, List, length, None, Some, IsTrue}
use Rattle.coalition_map.specs.Coalitions.{PlanNumbers}
use Rattle.leaf_table.specs.Loading.{IsTableFile, entries_of}
use Rattle.leaf_table.specs.Runs.{KeepsOneLease}
use Rattle.leaf_table.specs.State.{StandsFor, TableState}
use Rattle.leaf_table.specs.declared.lease.Lease.{Lease}
use Rattle.leaf_table.specs.declared.table.TableName.{TableName}
use Rattle.aggregator_session.specs.Tables.{TableSeen}
use Rattle.lms_bytes.specs.declared.public_key.PublicKey.{PublicKey}
use Rattle.slot_file.specs.State.{HasSlots, slot_in}
use Rattle.slot_file.specs.declared.header.Header.{Header}
use Rattle.slot_file.specs.declared.slot.Slot.{Slot}
use Rattle.stream_io.specs.Store.{Handed, StoreState}
use Rattle.tool_base.specs.World.{StoreRun}

-- this project's profile: the header of the leaf table of a key
abbrev pub table_header : PublicKey → Header
table_header key = record {
  version = 1;
  number = 0;
  lms = key.params.lms;
  ots = key.params.ots;
  id = key.id;
}

-- the leaf table of this header and plan, with just these entries
pub record IsTable (header : Header) (plan : PlanNumbers) (entries : List Lease) (file : List ℕ) : Type 0 where
  pub slots : List Slot
  pub has : HasSlots header slots file
  pub many : length slots ≡ 2 ^ plan.h
  pub entries_are : entries ≡ entries_of (2 ^ plan.h) (slot_in slots)

-- the leaf table of this header and plan, which stands for this state
pub record StandsAs (header : Header) (plan : PlanNumbers) (state : TableState) (file : List ℕ) : Type 0 where
  pub loads : IsTableFile header (2 ^ plan.h) file
  pub stands : StandsFor file state

-- The table of this name stands for this state at the end, and so it does in each image that a crash may leave. Each
-- leaf is for one message, also if an entry is in doubt.
pub record LeavesTable (store : StoreRun) (name : List ℕ) (header : Header) (plan : PlanNumbers) (state : TableState)
    : Type 0 where
  pub file : List ℕ
  pub is_read : IsTrue store.before.told → store.after.file name ≡ Some file
  pub stands : IsTrue store.before.told → StandsAs header plan state file
  pub images : IsTrue store.before.told → IsTrue (store.before.disks name).honest → (image : List ℕ)
      → store.after.leaves name image → StandsAs header plan state image
  pub many : length state.slots ≡ 2 ^ plan.h
  pub one_lease : KeepsOneLease state

-- what the disk of a table is for good
abbrev pub handed_of : TableName → Handed
handed_of name = record { told = name.told; honest = name.honest; steady = name.steady }

-- a table of this header and plan whose disk the store has just handed out: no call of it has failed
pub record IsFresh (store : StoreState) (name : List ℕ) (header : Header) (plan : PlanNumbers) (table : TableSeen)
    : Type 0 where
  pub told : IsTrue store.told → IsTrue table.name.told
  pub steady : IsTrue store.steady → IsTrue table.name.steady
  pub kind : IsTrue store.told → store.disks name ≡ handed_of table.name
  pub header_is : table.name.header ≡ header
  pub plan_is : table.name.plan ≡ plan
  pub faults : table.faults ≡ 0
  pub doubt : table.state.doubt ≡ None
