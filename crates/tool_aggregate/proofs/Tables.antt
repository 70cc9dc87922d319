-- Serving with a table of a store, from what serving over a net says.
use Rattle.std.proofs.Common.{[], ◌∷◌}
use Rattle.std.proofs.lemmas.List.Elements.{All-cons, All-nil}
use Rattle.aggregator_session.specs.Desks.{DeskState}
use Rattle.aggregator_session.specs.Tables.{TableSeen}
use Rattle.stream_io.specs.Store.{StoreState}
use Rattle.tool_base.specs.Ending.{Ending}
use Rattle.tool_base.specs.World.{from_to}
use Rattle.tool_aggregate.specs.Aggregate.{TableEnds, no_memory, no_ports, served}
use Rattle.tool_aggregate.specs.Serving.{CellsRun, NetClientsEnd, ServesWith}
use Rattle.tool_aggregate.specs.Serving as nets
use Rattle.tool_base.specs.Disks.{Stays}
use Rattle.tool_sign.specs.Ports.{NetRun}
use Rattle.tool_sign.specs.Tables.{table_header}
use Rattle.tool_sign.proofs.Tables.{TableRound}
use Rattle.tool_words.specs.Words.{AggregateWords}

module _ (words : AggregateWords) (desk : DeskState) (a e : StoreState) (net : NetRun) (own : CellsRun)
    (same rest : Type 0) (old new : TableSeen) (round : TableRound a e words.table (table_header desk.key) desk.plan same old new) where
  abbrev Ends : Ending → Type 0
  Ends end = TableEnds words (from_to a e) net desk (ServesWith words (from_to a e) net desk own) end (words.table ∷ [])

  pub ends_whole : (end : Ending) → NetClientsEnd words desk (same × rest) old new own net end → Ends end
  ends_whole _ (nets.no_memory is heard) = no_memory (words.table ∷ []) heard (All-cons (Stays (from_to a e)) words.table [] (round.stays is.0) (All-nil (Stays (from_to a e))))
  ends_whole _ (nets.no_ports is heard rose never) = no_ports old.state.entries round.table_is heard rose never (round.stays is.0)
  ends_whole _ (nets.served places_old places_new end have over) = served end (record {
    places_old = places_old;
    places_new = places_new;
    have = have;
    serves = record {
      old = old;
      new = new;
      fresh = round.fresh;
      table_is = round.table_is;
      name_is = round.name_is;
      over = over;
      left = round.left;
      sure = round.sure;
      rise = round.rise;
    };
  })
