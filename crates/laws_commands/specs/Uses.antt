-- The leaves that the requests of clients came to.
use Rattle.std.specs.Prelude.{◌≡◌, ◌⊎◌, ◌<◌, ℕ, Contains, List, Option, Result, Ok, Err, IfOk, length}
use Rattle.aggregator_session.specs.Desks.{DeskState}
use Rattle.aggregator_session.specs.declared.fault.SignFault.{SignFault}
use Rattle.aggregator_session.specs.declared.fault.SignFault.TheVariants as sign
use Rattle.aggregator_node.specs.Clients.{Answers, IsSigned, ReferenceState, Request, Serves, Stand}
use Rattle.aggregator_node.specs.Clients as clients
use Rattle.aggregator_node.specs.Logs.{Shows}
use Rattle.aggregator_node.specs.Logs as logs
use Rattle.aggregator_node.specs.Ports.{PortRun, Place, ServedClients, requests_in}
use Rattle.aggregator_node.specs.Connections.{Connection, WorkerParts, Works}
use Rattle.aggregator_node.specs.Connections as connections
use Rattle.coalition_map.specs.Coalitions.{PlanNumbers}
use Rattle.leaf_table.specs.Entries.{map_of}
use Rattle.leaf_table.specs.Leasing.{WasLeasedFor}
use Rattle.leaf_table.specs.declared.lease.Lease.{Lease}
use Rattle.leaf_table.specs.declared.table.TableName.{TableName}
use Rattle.aggregator_session.specs.Signing.{Signature}
use Rattle.aggregator_session.specs.Tables.{TableSeen}
use Rattle.lms_bytes.specs.MessageId.{message_id, message_id_bytes}
use Rattle.lms_bytes.specs.declared.message.MessageId.{MessageId}
use Rattle.share_files.specs.declared.reference.RefHeader.{RefHeader}
use Rattle.tool_aggregate.specs.Serving.{ServedTable}
use Rattle.tool_base.specs.Ending.{Ending}
use Rattle.tool_base.specs.World.{StoreRun}
use Rattle.tool_sign.specs.Leases.{AllLeave, IsLeasedIn}
use Rattle.tool_sign.specs.Ports.{NetRun}
use Rattle.tool_words.specs.Words.{AggregateWords}
use Rattle.node_workers.specs.declared.served.ServedEnd.{ServedEnd}
use Rattle.stream_io.specs.declared.totals.Totals.{Totals}
use Rattle.turn_lock.specs.Pass.{Seen}

-- an outcome before which no leaf was leased: the message was too long, there was no turn, or the table gave no leaf
abbrev pub IsUnleased : Result Signature SignFault → Type 0
IsUnleased (Ok signature) = ⊥
IsUnleased (Err (sign.TooLong got)) = Unit {0}
IsUnleased (Err sign.Worn) = Unit {0}
IsUnleased (Err (sign.Table why)) = Unit {0}
IsUnleased (Err (sign.Lost member round why)) = ⊥
IsUnleased (Err (sign.Stray member round)) = ⊥
IsUnleased (Err (sign.Session fault)) = ⊥
IsUnleased (Err sign.NoMemory) = ⊥

-- Signing a message came to this leaf: it was leased, and the outcome is that of a session with it.
abbrev pub CameTo : ℕ → {plan : PlanNumbers} {members : List ℕ} {message : MessageId} {old new : Seen Lease TableName}
    {outcome : Result Signature SignFault} {added : List Lease} → Shows plan members message old new outcome added
    → Type 0
CameTo leaf (logs.too_long got same) = ⊥
CameTo leaf (logs.no_turn turn) = ⊥
CameTo leaf (logs.refused why refuses draws) = ⊥
CameTo leaf (logs.leased own added burning result lease draws burnt is_burning) = leaf ≡ own

module _ (request : Request) (leaf : ℕ) {desk : DeskState} {reference : ReferenceState} where
  -- this is the request that was signed, and it came to this leaf
  pub record SignedWith {old new : Stand} {one : Request} (signed : IsSigned desk reference old new one) : Type 0 where
    pub request_is : request ≡ one
    pub leaf_is : CameTo leaf signed.shows

  -- the same for the request that was read, if one was
  abbrev pub AnsweredWith : {old new : Stand} {requests : List Request} {replies : ℕ} {ended : Option ServedEnd}
      → Answers desk reference old requests replies ended new → Type 0
  AnsweredWith (clients.no_request talk fault known none) = ⊥
  AnsweredWith (clients.no_room mid talk room replied) = ⊥
  AnsweredWith (clients.no_room_unanswered mid talk room failed) = ⊥
  AnsweredWith (clients.answered mid talk one exchange replied) = SignedWith exchange.signed
  AnsweredWith (clients.unanswered mid talk one exchange failed) = SignedWith exchange.signed

  -- the same for one of the requests of a connection
  abbrev pub ServedWith : {old new : Stand} {requests : List Request} {replies : ℕ} {end : ServedEnd}
      → Serves desk reference old requests replies end new → Type 0
  ServedWith (clients.ended old new requests replies end answers) = AnsweredWith answers
  ServedWith (clients.more old mid new requests others replies later end answers serves) =
      AnsweredWith answers ⊎ ServedWith serves
  ServedWith (clients.full old) = ⊥

  -- the same for one of the requests of all connections of a worker
  abbrev pub WorkedWith : {old new : WorkerParts} {served : List Connection}
      → Works desk reference old served new → Type 0
  WorkedWith (connections.left old port leaves) = ⊥
  WorkedWith (connections.next old mid new one others link works) = ServedWith link.serves ⊎ WorkedWith works

-- One of the requests at all ports that were served, and the leaf that it came to.
pub record Uses {desk : DeskState} {asked : ℕ} {old new : TableSeen} {places_old places_new : List Place}
    {totals : Totals} (all : ServedClients desk asked old new places_old places_new totals) (request : Request)
    (leaf : ℕ) : Type 0 where
  pub port : ℕ
  pub none : PortRun
  pub within : port < length all.runs
  pub came : WorkedWith request leaf (all.are port none within).works

-- A request came to a leaf, that of its signature if it has one; or no leaf was leased for it.
abbrev pub Comes : {desk : DeskState} {asked : ℕ} {old new : TableSeen} {places_old places_new : List Place}
    {totals : Totals} → ServedClients desk asked old new places_old places_new totals → Request → Type 0
Comes all request = IsUnleased request.outcome
    ⊎ ((leaf : ℕ) × IfOk request.outcome (λ signature. signature.leaf ≡ leaf) × Uses all request leaf)

-- What is left of a leaf that was leased for a message: it is leased for that message, or was and is now burnt, by the
-- entries that the table stands for, in the table's file, and in each image that a crash may leave of it.
pub record LeafIsLeft (store : StoreRun) (table : List ℕ) (now : TableSeen) (message : MessageId) (leaf : ℕ)
    : Type 0 where
  pub stands : WasLeasedFor (message_id_bytes message) (map_of now.state.entries leaf)
  pub files : AllLeave store table (IsLeasedIn leaf message)

-- What is left of the leaves in a run in which clients were served with a table: each request came to a leaf, unless
-- none was leased for it; what is left of that leaf is its lease for the request's message, or its burning, whatever
-- the outcome and the port; and no two requests whose messages have different ids came to one leaf.
pub record LeasesAreLeft {words : AggregateWords} {store : StoreRun} {net : NetRun} {header : RefHeader}
    {desk : DeskState} {end : Ending} (run : ServedTable words store net header desk end) : Type 0 where
  pub comes : (request : Request) → Contains (requests_in run.serves.over.served.runs) request
      → Comes run.serves.over.served request
  pub left : (request : Request) (leaf : ℕ) → Uses run.serves.over.served request leaf
      → LeafIsLeft store words.table run.serves.new (message_id request.message) leaf
  pub apart : (one other : Request) (leaf : ℕ) → Uses run.serves.over.served one leaf
      → Uses run.serves.over.served other leaf → message_id one.message ≡ message_id other.message
