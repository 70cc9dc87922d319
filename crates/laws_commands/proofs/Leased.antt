-- The leases of requests in the logs of their passes.
use Rattle.std.proofs.Common.{◌≡◌, ◌<◌, ◌^◌, ℕ, List, ◌++◌, Option, Some, Result, inl, inr, refl, sym, ap, ◌∙◌, subst, append-nil}
use mathlib.Core.List.{IsPrefix}
use Rattle.aggregator_session.specs.Desks.{DeskState}
use Rattle.aggregator_session.specs.declared.fault.SignFault.{SignFault}
use Rattle.laws_commands.specs.Uses.{AnsweredWith, CameTo, ServedWith, SignedWith, Uses, WorkedWith}
use Rattle.laws_commands.proofs.Prefixes.{either-begins, legal-front}
use Rattle.aggregator_node.specs.Clients.{Answers, IsSigned, ReferenceState, Request, Serves, Stand}
use Rattle.aggregator_node.specs.Clients as clients
use Rattle.aggregator_node.specs.Logs.{LeaseShows, Shows}
use Rattle.aggregator_node.specs.Logs as logs
use Rattle.aggregator_node.proofs.Keeping.{kept}
use Rattle.node_workers.proofs.Prefixes.{prefix-then}
use Rattle.aggregator_node.specs.Ports.{Place, ServedClients}
use Rattle.aggregator_node.specs.Connections.{Connection, WorkerParts, Works}
use Rattle.aggregator_node.specs.Connections as connections
use Rattle.aggregator_node.proofs.Gathering.{works-go}
use Rattle.aggregator_node.proofs.Serving.{serves-go}
use Rattle.coalition_map.specs.Coalitions.{PlanNumbers}
use Rattle.leaf_table.proofs.Maps.{map_of-same}
use Rattle.leaf_table.specs.Entries.{IsBurnt, IsLeased, OneLease, map_of}
use Rattle.leaf_table.specs.Leasing.{WasLeasedFor}
use Rattle.leaf_table.specs.declared.lease.Lease.{Lease}
use Rattle.leaf_table.specs.declared.lease.Lease.TheVariants.{Leased}
use Rattle.leaf_table.specs.declared.table.TableName.{TableName}
use Rattle.aggregator_session.specs.Signing.{Signature}
use Rattle.aggregator_session.specs.Tables.{TableSeen}
use Rattle.lms_bytes.specs.MessageId.{message_id, message_id_bytes}
use Rattle.lms_bytes.specs.declared.message.MessageId.{MessageId}
use Rattle.laws_signing.proofs.Leaves.{lease-own}
use Rattle.node_workers.specs.declared.served.ServedEnd.{ServedEnd}
use Rattle.stream_io.specs.declared.totals.Totals.{Totals}
use Rattle.turn_lock.specs.Pass.{Seen}

-- in a beginning of the log the leaf is leased for this message
pub record LeasedIn (plan : PlanNumbers) (log : List Lease) (message : List ℕ) (leaf : ℕ) : Type 0 where
  pub front : List Lease
  pub begins : IsPrefix front log
  pub leased : map_of front leaf ≡ IsLeased message
  pub within : leaf < 2 ^ plan.h

-- and so it is in every log that goes on from this one
later : (plan : PlanNumbers) (log last : List Lease) (message : List ℕ) (leaf : ℕ) → IsPrefix log last → LeasedIn plan log message leaf → LeasedIn plan last message leaf
later plan log last message leaf on l = record {
  front = l.front;
  begins = prefix-then l.front log last l.begins on;
  leased = l.leased;
  within = l.within;
}

shows-leased : {plan : PlanNumbers} {members : List ℕ} {message : MessageId} {old log added : List Lease} (leaf : ℕ) → LeaseShows plan members message old log leaf added
    → LeasedIn plan log (message_id_bytes message) leaf
shows-leased {plan} {members} {message} {old} {log} {added} leaf l =
    let leased : map_of (l.met ++ added) leaf ≡ IsLeased (message_id_bytes message) = elim l.entry [
      | inl is ↦ ap (λ (more : List Lease). map_of (l.met ++ more) leaf) is.1 ∙ ap (λ (e : List Lease). map_of e leaf) (append-nil l.met) ∙ is.0
      | inr is ↦ ap (λ (more : List Lease). map_of (l.met ++ more) leaf) is.1 ∙ map_of-same l.met (Leased leaf message) leaf refl
    ] in
    record {
      front = l.met ++ added;
      begins = l.stands;
      leased = leased;
      within = (lease-own plan l.met l.c (message_id_bytes message) (Some leaf) leaf l.lease refl).leaf;
    }

came-leased : {plan : PlanNumbers} {members : List ℕ} {message : MessageId} {old new : Seen Lease TableName} {outcome : Result Signature SignFault} {added : List Lease} (leaf : ℕ)
    (shows : Shows plan members message old new outcome added) → CameTo leaf shows → LeasedIn plan new.log (message_id_bytes message) leaf
came-leased leaf (logs.too_long got same) came = absurd came
came-leased leaf (logs.no_turn turn) came = absurd came
came-leased leaf (logs.refused why refuses draws) came = absurd came
came-leased {plan} {members} {message} {old} {new} leaf (logs.leased own added burning result lease draws burnt is_burning) came =
    subst (LeasedIn plan new.log (message_id_bytes message)) (sym came) (shows-leased own lease)

module _ (request : Request) (leaf : ℕ) (desk : DeskState) (reference : ReferenceState) where
  abbrev Has : List Lease → Type 0
  Has log = LeasedIn desk.plan log (message_id_bytes (message_id request.message)) leaf

  signed-leased : (old new : Stand) (one : Request) (signed : IsSigned desk reference old new one) → SignedWith request leaf signed → Has new.pass.log
  signed-leased old new one signed with =
      subst (λ (r : Request). LeasedIn desk.plan new.pass.log (message_id_bytes (message_id r.message)) leaf) (sym with.request_is) (came-leased leaf signed.shows with.leaf_is)

  answered-leased : (old new : Stand) (requests : List Request) (replies : ℕ) (ended : Option ServedEnd) (answers : Answers desk reference old requests replies ended new)
      → AnsweredWith request leaf answers → Has new.pass.log
  answered-leased old new requests replies ended (clients.no_request talk fault known none) with = absurd with
  answered-leased old new requests replies ended (clients.no_room mid talk room replied) with = absurd with
  answered-leased old new requests replies ended (clients.no_room_unanswered mid talk room failed) with = absurd with
  answered-leased old new requests replies ended (clients.answered mid talk one exchange replied) with = signed-leased old mid one exchange.signed with
  answered-leased old new requests replies ended (clients.unanswered mid talk one exchange failed) with = signed-leased old mid one exchange.signed with

  served-leased : (old new : Stand) (requests : List Request) (replies : ℕ) (end : ServedEnd) (serves : Serves desk reference old requests replies end new)
      → ServedWith request leaf serves → Has new.pass.log
  served-leased old new requests replies end (clients.ended at last asked many by answers) with = answered-leased old new requests replies (Some end) answers with
  served-leased old new requests replies end (clients.more at mid last asked others many rest by answers serves) (inl with) =
      later desk.plan mid.pass.log new.pass.log _ leaf (serves-go desk reference mid new others rest end serves).steps.begins
      (answered-leased old mid asked many _ answers with)
  served-leased old new requests replies end (clients.more at mid last asked others many rest by answers serves) (inr with) =
      served-leased mid new others rest end serves with
  served-leased old new requests replies end (clients.full at) with = absurd with

  pub worked-leased : (old new : WorkerParts) (served : List Connection) (works : Works desk reference old served new) → WorkedWith request leaf works → Has new.pass.log
  worked-leased old new served (connections.left at port leaves) with = absurd with
  worked-leased old new served (connections.next at mid last one others link works) (inl with) =
      later desk.plan mid.pass.log new.pass.log _ leaf (works-go desk reference mid new others works).steps.begins
      (served-leased _ _ one.requests one.served.frames one.served.ended link.serves with)
  worked-leased old new served (connections.next at mid last one others link works) (inr with) = worked-leased mid new others works with

-- a request of the ports that were served
pub used-leased : {desk : DeskState} {asked : ℕ} {old new : TableSeen} {places_old places_new : List Place} {totals : Totals}
    (all : ServedClients desk asked old new places_old places_new totals) (request : Request) (leaf : ℕ) → Uses all request leaf
    → LeasedIn desk.plan new.state.entries (message_id_bytes (message_id request.message)) leaf
used-leased {desk} {asked} {old} {new} all request leaf uses =
    let port = all.are uses.port uses.none uses.within in
    later desk.plan port.done.log new.state.entries _ leaf port.stands (worked-leased request leaf desk _ _ _ _ port.works uses.came)

-- it is leased at the end, or burnt
pub stands-leased : (plan : PlanNumbers) (entries more : List Lease) (message : List ℕ) (leaf : ℕ) → OneLease (entries ++ more) → LeasedIn plan entries message leaf
    → WasLeasedFor message (map_of (entries ++ more) leaf)
stands-leased plan entries more message leaf legal l =
    kept l.front (entries ++ more) leaf message (prefix-then l.front entries (entries ++ more) l.begins (more, refl)) legal l.leased

-- what was leased for one message is leased for no other
one-message : (one other : List ℕ) (front log : List Lease) (leaf : ℕ) → IsPrefix front log → OneLease log → map_of front leaf ≡ IsLeased one → map_of log leaf ≡ IsLeased other
    → one ≡ other
one-message one other front log leaf begins legal first second = elim (kept front log leaf one begins legal first) [
  | inl is ↦ (let same : IsLeased one ≡ IsLeased other = sym is ∙ second in cc)
  | inr is ↦ (let never : IsBurnt ≡ IsLeased other = sym is ∙ second in absurd (cc))
]

front-legal : (front log : List Lease) → IsPrefix front log → OneLease log → OneLease front
front-legal front log begins legal = legal-front front begins.0 (subst OneLease (sym begins.1) legal)

pub same-message : (plan : PlanNumbers) (entries : List Lease) (one other : List ℕ) (leaf : ℕ) → OneLease entries → LeasedIn plan entries one leaf → LeasedIn plan entries other leaf
    → one ≡ other
same-message plan entries one other leaf legal a b = elim (either-begins a.front b.front a.begins.0 b.begins.0 (a.begins.1 ∙ sym b.begins.1)) [
  | inl begins ↦ one-message one other a.front b.front leaf begins (front-legal b.front entries b.begins legal) a.leased b.leased
  | inr begins ↦ sym (one-message other one b.front a.front leaf begins (front-legal a.front entries a.begins legal) b.leased a.leased)
]
