-- How serving clients over a net ends.
use Rattle.std.proofs.Common.{◌≡◌, ◌++◌, List, length, map, Some, Result, Ok, Err, All, IsTrue, IfOk, OnErr, sym, ap, ◌∙◌, refl, subst, arith}
use Rattle.std.proofs.lemmas.List.{length-map}
use Rattle.aggregator_node.specs.Ports.{Place, ServedClients, places_of}
use Rattle.disk_trait.specs.Faults.{Rose}
use Rattle.disk_trait.specs.declared.faults.Faults as faults
use Rattle.aggregator_session.specs.Desks.{DeskState}
use Rattle.aggregator_session.specs.Tables.{TableOnward, TableSeen}
use Rattle.memory.specs.declared.NoMemory.{NoMemory}
use Rattle.reference_value.specs.declared.cells.Cells as cells
use Rattle.stream_io.specs.Net.{IsNewPort, PortState, SomeUnaccepted}
use Rattle.tool_base.proofs.Heard.{heard_new}
use Rattle.tool_base.specs.Ending.{Ending}
use Rattle.tool_aggregate.specs.Serving.{NetClientsEnd, cells_run, no_memory, served}
use Rattle.tool_base.specs.Services.{ServiceEnds}
use Rattle.tool_sign.specs.Ports.{NetRun}
use Rattle.tool_words.specs.Words.{AggregateWords}
use Rattle.stream_io.specs.declared.totals.Totals.{Totals}
use Rattle.tool_aggregate.proofs.Places.{have_cells, ports_are}

module _ {X P : Type 0} (c : cells.Ghosts X) (f : faults.Ghosts X) (state : P → PortState) (words : AggregateWords) (desk : DeskState) (table_same ports_same cells_same : Type 0) (old new : TableSeen)
    (net : NetRun) (ports_old ports_new : List P) (own_old own_new : List X) (before : length own_old ≡ length ports_old) (after : length own_new ≡ length ports_new) where
  abbrev places_before : List Place
  places_before = places_of c f state ports_old own_old

  abbrev places_after : List Place
  places_after = places_of c f state ports_new own_new

  pub net_ends : (totals : Result Totals NoMemory) (end : Ending) → length (map state ports_old) ≡ words.workers → (IsTrue net.before.told → IsTrue (net.before.offers words.place))
      → All (IsNewPort net.before (Some words.place)) (map state ports_old)
      → IfOk totals (λ totals. ServedClients desk words.connections old new places_before places_after totals)
      → (IsTrue net.before.told → net.after.kept ≡ net.before.kept ++ map state ports_new)
      → (SomeUnaccepted (map state ports_new) → Rose net.before.port_count net.after.port_count)
      → OnErr totals (table_same × ports_same × cells_same) → (ports_same → map state ports_new ≡ map state ports_old) → ServiceEnds (map state ports_new) totals end
      → NetClientsEnd words desk (table_same × cells_same) old new (cells_run c f own_old own_new) net end
  net_ends (Ok totals) end many offered made serves kept deaf refused back ends =
      let was = ports_are c f state ports_old own_old before in
      let now = ports_are c f state ports_new own_new after in
      served places_before places_after end (have_cells c f state ports_old ports_new own_old own_new before after) (record {
        totals = totals;
        many = sym (length-map places_before (λ (place : Place). place.port)) ∙ ap length was ∙ many;
        offered = offered;
        made = subst (All (IsNewPort net.before (Some words.place))) (sym was) made;
        served = serves;
        kept = λ told. kept told ∙ ap (λ (l : List PortState). net.before.kept ++ l) (sym now);
        ends = subst (λ (l : List PortState). ServiceEnds l (Ok totals) end) (sym now) ends;
        deaf = λ some. deaf (subst SomeUnaccepted now some);
      })
  net_ends (Err none) end many offered made serves kept deaf refused back ends =
      rw ends (no_memory (refused.0, refused.2)
      (heard_new net.before net.after words.place (map state ports_old) made
      (λ told. kept told ∙ ap (λ (l : List PortState). net.before.kept ++ l) (back refused.1))))

pub table_still : (table : TableSeen) → TableOnward table table
table_still table = record { name = refl; faults = omega arith }
