-- What an aggregator did over the ports of a net, with a table of a store.
use Rattle.std.specs.Prelude.{◌≡◌, ◌≤◌, ◌+◌, ◌-◌, ◌^◌, ◌++◌, min, map, ℕ, List, All, length, None, Some}
use Rattle.std.specs.Prelude.{Ok, IsTrue, false}
use Rattle.std.specs.List.{sum_by}
use Rattle.aggregator_node.specs.Clients.{ReferenceState}
use Rattle.aggregator_node.specs.Ports.{Place, ServedClients, reference_state}
use Rattle.disk_trait.specs.Faults.{Rose}
use Rattle.disk_trait.specs.declared.faults.Faults as faults
use Rattle.aggregator_session.specs.Desks.{DeskState}
use Rattle.aggregator_session.specs.Tables.{TableSeen}
use Rattle.reference_value.specs.declared.cells.Cells as cells
use Rattle.share_files.specs.declared.reference.RefHeader.{RefHeader}
use Rattle.stream_io.specs.Net.{IsNewPort, PortState, SomeUnaccepted}
use Rattle.tool_base.specs.Ending as ending
use Rattle.tool_base.specs.Ending.{Ending}
use Rattle.tool_base.specs.Heard.{HeardNobody}
use Rattle.tool_base.specs.World.{StoreRun}
use Rattle.tool_aggregate.specs.Desks.{ReadsReference}
use Rattle.tool_base.specs.Loads.{ReadsAs}
use Rattle.tool_base.specs.Services.{ServiceEnds}
use Rattle.tool_sign.specs.Ports.{NetRun}
use Rattle.tool_sign.specs.Tables.{IsFresh, IsTable, LeavesTable, table_header}
use Rattle.tool_words.specs.Words.{AggregateWords}
use Rattle.stream_io.specs.declared.totals.Totals.{Totals}

-- the ports of places
abbrev pub ports_of : List Place → List PortState
ports_of places = map (λ (place : Place). place.port) places

-- the counts of faults of their references together
abbrev pub faults_of : List Place → ℕ
faults_of places = sum_by (λ (place : Place). place.faults) places

-- Ports were made at the place of the words, which the net offers, one for each worker, and clients were served over
-- them; then all were given back, and the net keeps them. The end says what was served, or that accepting failed.
pub record ServedNet (words : AggregateWords) (desk : DeskState) (old new : TableSeen)
    (places_old places_new : List Place) (net : NetRun) (end : Ending) : Type 0 where
  pub totals : Totals
  pub many : length places_old ≡ words.workers
  pub offered : IsTrue net.before.told → IsTrue (net.before.offers words.place)
  pub made : All (IsNewPort net.before (Some words.place)) (ports_of places_old)
  pub served : ServedClients desk words.connections old new places_old places_new totals
  pub kept : IsTrue net.before.told → net.after.kept ≡ net.before.kept ++ ports_of places_new
  pub ends : ServiceEnds (ports_of places_new) (Ok totals) end
  pub deaf : SomeUnaccepted (ports_of places_new) → Rose net.before.port_count net.after.port_count

-- The clients were served with a leaf of the table of the words for each message: from the entries of its file to those
-- that it stands for at the end, and in whatever a crash leaves of it. A put is in doubt only if the disk has failed.
pub record ServesTable (words : AggregateWords) (store : StoreRun) (net : NetRun) (desk : DeskState)
    (places_old places_new : List Place) (end : Ending) : Type 0 where
  pub old : TableSeen
  pub new : TableSeen
  pub fresh : IsFresh store.before words.table (table_header desk.key) desk.plan old
  pub table_is : ReadsAs store words.table (IsTable (table_header desk.key) desk.plan old.state.entries)
  pub name_is : new.name ≡ old.name
  pub over : ServedNet words desk old new places_old places_new net end
  pub left : LeavesTable store words.table (table_header desk.key) desk.plan new.state
  pub sure : new.faults ≡ 0 → new.state.doubt ≡ None
  pub rise : min (store.before.disk_count + new.faults) (2 ^ 64 - 1) ≤ store.after.disk_count

-- The same for the whole command: the workers read the reference of the words. The faults of the table's disk and those
-- of the references are together among those of the store's disks and views.
pub record ServedTable (words : AggregateWords) (store : StoreRun) (net : NetRun) (header : RefHeader)
    (desk : DeskState) (end : Ending) : Type 0 where
  pub places_old : List Place
  pub places_new : List Place
  pub serves : ServesTable words store net desk places_old places_new end
  pub reads : All (ReadsReference words store header) places_old
  pub faults : min (store.before.disk_count + serves.new.faults + faults_of places_new) (2 ^ 64 - 1)
      ≤ store.after.disk_count

-- internal: the cells of workers: the references that they read, and the counts of faults of these before and after
pub record CellsRun : Type 0 where
  pub references : List ReferenceState
  pub before : List ℕ
  pub after : List ℕ

-- internal: the same for cells that have these members, according to what a call made of them
abbrev pub cells_run : {X : Type 0} → cells.Ghosts X → faults.Ghosts X → List X → List X → CellsRun
cells_run c f olds news = record {
  references = map (reference_state c f) olds;
  before = map f.count olds;
  after = map f.count news;
}

-- internal: places that have these cells
pub record HaveCells (own : CellsRun) (places_old places_new : List Place) : Type 0 where
  pub references : map (λ (place : Place). place.reference) places_old ≡ own.references
  pub before : map (λ (place : Place). place.faults) places_old ≡ own.before
  pub after : map (λ (place : Place). place.faults) places_new ≡ own.after

-- internal: how serving over a net ends with a table that is loaded: clients were served, or nobody was heard and all
-- is as it was
pub data NetClientsEnd (words : AggregateWords) (desk : DeskState) (same : Type 0) (old new : TableSeen)
    (own : CellsRun) (net : NetRun) : Ending → Type 0 where
  no_memory : same → HeardNobody words.place net.before net.after
      → NetClientsEnd words desk same old new own net ending.NoMemory
  no_ports : same → HeardNobody words.place net.before net.after → Rose net.before.port_count net.after.port_count
      → (IsTrue net.before.told → IsTrue net.before.steady → net.before.offers words.place ≡ false)
      → NetClientsEnd words desk same old new own net ending.NetFailed
  served : (places_old places_new : List Place) (end : Ending) → HaveCells own places_old places_new
      → ServedNet words desk old new places_old places_new net end
      → NetClientsEnd words desk same old new own net end

-- internal: clients were served with a table, by workers that have these cells
pub record ServesWith (words : AggregateWords) (store : StoreRun) (net : NetRun) (desk : DeskState)
    (own : CellsRun) (end : Ending) : Type 0 where
  pub places_old : List Place
  pub places_new : List Place
  pub have : HaveCells own places_old places_new
  pub serves : ServesTable words store net desk places_old places_new end
