-- What a command that served came to if no call of the outside fails except for its arguments.
use Rattle.aggregator_session.specs.Desks.{DeskState}
use Rattle.std.specs.Prelude.{◌≡◌, All}
use Rattle.aggregator_node.specs.Ports.{requests_in}
use Rattle.aggregator_node.specs.Connections.{with_status}
use Rattle.share_files.specs.declared.reference.RefHeader.{RefHeader}
use Rattle.tool_aggregate.specs.Desks.{IsDesk}
use Rattle.tool_aggregate.specs.Serving.{ServedTable}
use Rattle.tool_aggregate.specs.Steady.{HasNoNetFault}
use Rattle.tool_base.specs.Ending.{Ending}
use Rattle.tool_base.specs.World.{Outside, from_to}
use Rattle.tool_sign.specs.Ports.{over_net}
use Rattle.tool_base.specs.Services.{HasAccepted}
use Rattle.tool_trustee.specs.Steady.{GrantsAll}
use Rattle.tool_trustee.specs.Trustee.{ServedTrustee}
use Rattle.tool_words.specs.Words.{Row, Aggregate, AggregateWords, Trustee, TrusteeWords}
use Rattle.trustee_node.specs.Ports.{NoLinkFails, TakesAll, turns_in}
use Rattle.trustee_node.specs.Turns.{with_code}

-- A trustee was served. No port failed to accept; no reply has code 6, for a journal's disk that failed, or 7, for a
-- slot that is damaged; and each ask that is granted on the entries that its turn met was granted, so it is answered
-- with its masks. If the net's links have room for 65,536 of the longest replies, no connection ended because a link
-- failed.
pub record ServesAsks (words : TrusteeWords) (before after : Outside) (end : Ending) : Type 0 where
  pub run : ServedTrustee words before after end
  pub hears : All HasAccepted run.net.ports_new
  pub no_device : with_code 6 (turns_in run.net.served.runs) ≡ 0
  pub no_damage : with_code 7 (turns_in run.net.served.runs) ≡ 0
  pub grants : GrantsAll run.share run.ids (turns_in run.net.served.runs)
  pub links : TakesAll run.share.params before.net.room → NoLinkFails run.net.served.runs

-- Clients were served. No port failed to accept, and no reply has failure 10, for a table or a reference that failed.
-- If the net's links have room for 65,536 of the longest replies, no connection ended because a link failed.
pub record ServesClients (words : AggregateWords) (before after : Outside) (end : Ending) : Type 0 where
  pub header : RefHeader
  pub desk : DeskState
  pub is_desk : IsDesk words (from_to before.store after.store) header desk
  pub run : ServedTable words (from_to before.store after.store) (over_net before.net after.net) header desk end
  pub no_fault : HasNoNetFault run
  pub no_device : with_status 10 (requests_in run.serves.over.served.runs) ≡ 0

-- what a command that listens at a place did, if it came to this end by serving
pub data ServesAll (before after : Outside) : Row → Ending → Type 0 where
  asks : (words : TrusteeWords) (end : Ending) → ServesAsks words before after end
      → ServesAll before after (Trustee words) end
  clients : (words : AggregateWords) (end : Ending) → ServesClients words before after end
      → ServesAll before after (Aggregate words) end
