-- The result of serving clients if no call of the net fails except because of its arguments.
use Rattle.aggregator_session.specs.Desks.{DeskState}
use Rattle.std.specs.Prelude.{◌≡◌, All}
use Rattle.aggregator_node.specs.Roomy.{NoLinkFails, TakesAll}
use Rattle.share_files.specs.declared.reference.RefHeader.{RefHeader}
use Rattle.tool_base.specs.Ending as ending
use Rattle.tool_base.specs.Ending.{Ending}
use Rattle.tool_base.specs.World.{StoreRun}
use Rattle.tool_aggregate.specs.Serving.{ServedTable, ports_of}
use Rattle.tool_sign.specs.Ports.{NetRun}
use Rattle.tool_base.specs.Services.{HasAccepted}
use Rattle.tool_words.specs.Words.{AggregateWords}

-- No port failed to accept, so the end has the numbers of what was served. If the net's links have room for 65,536 of
-- the longest replies, no client's connection ended by a link that failed.
pub record HasNoNetFault {words : AggregateWords} {store : StoreRun} {net : NetRun} {header : RefHeader}
    {desk : DeskState} {end : Ending} (run : ServedTable words store net header desk end) : Type 0 where
  pub hears : All HasAccepted (ports_of run.places_new)
  pub end_is : end ≡ ending.Served run.serves.over.totals.connections run.serves.over.totals.frames
  pub links : TakesAll desk.key.params net.before.room → NoLinkFails run.serves.over.served.runs
