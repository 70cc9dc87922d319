-- How `aggregate` ends: it reads the files of the dealing, with a view of the reference for each worker, loads the
-- table, makes ports, serves, and gives all back.
use Rattle.aggregator_session.specs.Desks.{DeskState}
use Rattle.std.specs.Prelude.{◌≡◌, ◌^◌, ℕ, List, [], ◌∷◌, All, IsTrue, false}
use Rattle.disk_trait.specs.Faults.{Rose}
use Rattle.leaf_table.specs.declared.lease.Lease.{Lease}
use Rattle.share_files.specs.declared.reference.RefHeader.{RefHeader}
use Rattle.tool_base.specs.Ending as ending
use Rattle.tool_base.specs.Ending.{Ending}
use Rattle.tool_base.specs.Heard.{HeardNobody}
use Rattle.tool_base.specs.Touched.{Keeps}
use Rattle.tool_base.specs.World.{Failed, IsNetBack, IsRead, StoreRun}
use Rattle.tool_aggregate.specs.Desks.{FailsDesk, IsDesk}
use Rattle.tool_aggregate.specs.Serving.{ServedTable}
use Rattle.tool_base.specs.Disks.{Stays}
use Rattle.tool_base.specs.Loads.{FailsToLoad, ReadsAs}
use Rattle.tool_sign.specs.Ports.{NetRun}
use Rattle.tool_sign.specs.Tables.{IsTable, table_header}
use Rattle.tool_words.specs.Words.{AggregateWords}

-- How serving with the table of the words ends, with the names that it touched, given what holds of an end at which
-- clients were served. At every other end nobody was heard.
pub data TableEnds (words : AggregateWords) (store : StoreRun) (net : NetRun) (desk : DeskState)
    (Serves : Ending → Type 0) : Ending → List (List ℕ) → Type 0 where
  no_memory : (touched : List (List ℕ)) → HeardNobody words.place net.before net.after → All (Stays store) touched
      → TableEnds words store net desk Serves ending.NoMemory touched
  no_table : IsRead store words.table Failed → HeardNobody words.place net.before net.after
      → TableEnds words store net desk Serves ending.StoreFailed []
  not_loaded : (end : Ending) → FailsToLoad (table_header desk.key) (2 ^ desk.plan.h) store words.table end
      → HeardNobody words.place net.before net.after → Stays store words.table
      → TableEnds words store net desk Serves end (words.table ∷ [])
  no_ports : (entries : List Lease) → ReadsAs store words.table (IsTable (table_header desk.key) desk.plan entries)
      → HeardNobody words.place net.before net.after → Rose net.before.port_count net.after.port_count
      → (IsTrue net.before.told → IsTrue net.before.steady → net.before.offers words.place ≡ false)
      → Stays store words.table → TableEnds words store net desk Serves ending.NetFailed (words.table ∷ [])
  served : (end : Ending) → Serves end
      → TableEnds words store net desk Serves end (words.table ∷ [])

-- internal: an end of serving with a table
pub record TableRun (words : AggregateWords) (store : StoreRun) (net : NetRun) (desk : DeskState)
    (Serves : Ending → Type 0) (end : Ending) : Type 0 where
  pub touched : List (List ℕ)
  pub ends : TableEnds words store net desk Serves end touched
  pub keeps : Keeps touched store.before store.after
  pub ports : IsNetBack net.before net.after

-- how the command ends, with the names that it touched
pub data AggregateEnds (words : AggregateWords) (store : StoreRun) (net : NetRun)
    : Ending → List (List ℕ) → Type 0 where
  no_desk : (end : Ending) → FailsDesk words store end → net.after ≡ net.before → AggregateEnds words store net end []
  ended : (header : RefHeader) (desk : DeskState) (end : Ending) (touched : List (List ℕ))
      → IsDesk words store header desk
      → TableEnds words store net desk (ServedTable words store net header desk) end touched
      → AggregateEnds words store net end touched

-- The command `aggregate`: an end according to its rules. The store keeps all but the names that it touched, and all
-- disks, views and ports are back.
pub record AggregateRun (words : AggregateWords) (store : StoreRun) (net : NetRun) (end : Ending) : Type 0 where
  pub touched : List (List ℕ)
  pub ends : AggregateEnds words store net end touched
  pub keeps : Keeps touched store.before store.after
  pub ports : IsNetBack net.before net.after
