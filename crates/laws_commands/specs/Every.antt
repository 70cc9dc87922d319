-- What every request at all ports of a run comes to, if all is well for it.
use Rattle.std.specs.Prelude.{◌<◌, ℕ, List, Option, length}
use Rattle.laws_commands.specs.Requests.{IsAnswer, IsWell}
use Rattle.aggregator_node.specs.Clients.{Answers, IsSigned, ReferenceState, Request, Serves, Stand}
use Rattle.aggregator_node.specs.Clients as clients
use Rattle.aggregator_node.specs.Ports.{Place, PortRun, ServedClients}
use Rattle.aggregator_node.specs.Connections.{Connection, WorkerParts, Works}
use Rattle.aggregator_node.specs.Connections as connections
use Rattle.aggregator_session.specs.Desks.{DeskState}
use Rattle.aggregator_session.specs.Tables.{TableSeen}
use Rattle.lms_verify.specs.UndividedKey.{UndividedKey}
use Rattle.reference_value.specs.Dealing.{Dealing}
use Rattle.tool_words.specs.Words.{AggregateWords}
use Rattle.node_workers.specs.declared.served.ServedEnd.{ServedEnd}
use Rattle.stream_io.specs.declared.totals.Totals.{Totals}

module _ (words : AggregateWords) (d : Dealing) (key : UndividedKey) {desk : DeskState} {reference : ReferenceState}
  where
    -- if all is well for a request that was signed, its outcome is the undivided key's signature, or memory ran out
    abbrev pub IsAnswered : {old new : Stand} {request : Request} → IsSigned desk reference old new request → Type 0
    IsAnswered {request = request} done = IsWell words d key done → IsAnswer d key request.message request.outcome

    -- the same for the request that was read, if one was
    abbrev pub OneAnswered : {old new : Stand} {requests : List Request} {replies : ℕ} {ended : Option ServedEnd}
        → Answers desk reference old requests replies ended new → Type 0
    OneAnswered (clients.no_request talk fault known none) = Unit {0}
    OneAnswered (clients.no_room mid talk room replied) = Unit {0}
    OneAnswered (clients.no_room_unanswered mid talk room failed) = Unit {0}
    OneAnswered (clients.answered mid talk one exchange replied) = IsAnswered exchange.signed
    OneAnswered (clients.unanswered mid talk one exchange failed) = IsAnswered exchange.signed

    -- the same for each request of a connection
    abbrev pub EachServed : {old new : Stand} {requests : List Request} {replies : ℕ} {end : ServedEnd}
        → Serves desk reference old requests replies end new → Type 0
    EachServed (clients.ended old new requests replies end answers) = OneAnswered answers
    EachServed (clients.more old mid new requests others replies later end answers serves) =
        OneAnswered answers × EachServed serves
    EachServed (clients.full old) = Unit {0}

    -- the same for each request of all connections of a worker
    abbrev pub EachWorked : {old new : WorkerParts} {served : List Connection}
        → Works desk reference old served new → Type 0
    EachWorked (connections.left old port leaves) = Unit {0}
    EachWorked (connections.next old mid new one others link works) = EachServed link.serves × EachWorked works

-- Every request at all ports that were served has such an answer, if all is well for it.
abbrev pub AllAnswered : AggregateWords → Dealing → UndividedKey → {desk : DeskState} {asked : ℕ} {old new : TableSeen}
    {places_old places_new : List Place} {totals : Totals}
    → ServedClients desk asked old new places_old places_new totals → Type 0
AllAnswered words d key all = (port : ℕ) (none : PortRun) (within : port < length all.runs)
    → EachWorked words d key (all.are port none within).works
