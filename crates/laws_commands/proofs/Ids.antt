-- Requests that came to leaves have short messages, and those have ids with bytes of their own.
use Rattle.std.proofs.Common.{◌≡◌, ◌≤◌, ◌<◌, ◌^◌, ℕ, Bool, true, false, List, length, take, drop, Option, Some, Result, is_some, if◌then◌else◌, inl, inr, refl, sym, ap, ◌∙◌, subst, arith}
use Rattle.std.proofs.lemmas.List.{drop_at, take_at}
use Rattle.std.proofs.lemmas.Nat.{from_be_bytes-to_be_bytes_4}
use Rattle.aggregator_session.specs.Desks.{DeskState}
use Rattle.aggregator_session.specs.declared.fault.SignFault.{SignFault}
use Rattle.laws_commands.specs.Uses.{AnsweredWith, CameTo, ServedWith, SignedWith, Uses, WorkedWith}
use Rattle.aggregator_node.specs.Clients.{Answers, IsSigned, ReferenceState, Request, Serves, Stand}
use Rattle.aggregator_node.specs.Clients as clients
use Rattle.aggregator_node.specs.Logs.{Shows}
use Rattle.aggregator_node.specs.Logs as logs
use Rattle.aggregator_node.specs.Signing.{SignsInTurns}
use Rattle.aggregator_node.specs.Signing as signing
use Rattle.aggregator_node.specs.Ports.{Place, ServedClients}
use Rattle.aggregator_node.specs.Connections.{Connection, WorkerParts, Works}
use Rattle.aggregator_node.specs.Connections as connections
use Rattle.coalition_map.specs.Coalitions.{PlanNumbers}
use Rattle.leaf_table.specs.declared.lease.Lease.{Lease}
use Rattle.leaf_table.specs.declared.table.TableName.{TableName}
use Rattle.aggregator_session.specs.Signing.{Signature, ToSign, spent_by}
use Rattle.aggregator_session.specs.Tables.{TableSeen}
use Rattle.lms_bytes.specs.Bytes.{str_to_u32, u32str}
use Rattle.lms_bytes.specs.MessageId.{message_id_bytes}
use Rattle.lms_bytes.specs.declared.message.MessageId.{MessageId}
use Rattle.stream_io.specs.Net.{PortState}
use Rattle.node_workers.specs.declared.served.ServedEnd.{ServedEnd}
use Rattle.stream_io.specs.declared.totals.Totals.{Totals}
use Rattle.turn_lock.specs.Pass.{Seen}

abbrev id-of : ℕ → List ℕ → MessageId
id-of length hash = record { length = length; hash = hash }

-- the bytes of an id are those of no other
pub same-id : (one other : MessageId) → one.length < 2 ^ 32 → other.length < 2 ^ 32 → message_id_bytes one ≡ message_id_bytes other → one ≡ other
same-id one other small few same =
    let front : u32str one.length ≡ u32str other.length = sym (take_at (u32str one.length) one.hash 4 refl) ∙ (ap (take 4) same ∙ take_at (u32str other.length) other.hash 4 refl) in
    let hash : one.hash ≡ other.hash = sym (drop_at (u32str one.length) one.hash 4 refl) ∙ (ap (drop 4) same ∙ drop_at (u32str other.length) other.hash 4 refl) in
    let size : one.length ≡ other.length = sym (from_be_bytes-to_be_bytes_4 one.length small) ∙ (ap str_to_u32 front ∙ from_be_bytes-to_be_bytes_4 other.length few) in
    let ids : id-of one.length one.hash ≡ id-of other.length other.hash = λ i. id-of (size i) (hash i) in
    ids

-- a lease draws a ticket
one-more : (spent : Bool) → 1 ≤ (if spent then 2 else 1)
one-more true = omega arith
one-more false = omega arith

came-draws : {plan : PlanNumbers} {members : List ℕ} {message : MessageId} {old new : Seen Lease TableName} {outcome : Result Signature SignFault} {added : List Lease} (leaf : ℕ)
    (shows : Shows plan members message old new outcome added) → CameTo leaf shows → old.draws < new.draws
came-draws leaf (logs.too_long got same) came = absurd came
came-draws leaf (logs.no_turn turn) came = absurd came
came-draws leaf (logs.refused why refuses draws) came = absurd came
came-draws leaf (logs.leased own added burning result lease draws burnt is_burning) came =
    let more = one-more (is_some (spent_by result)) in
    omega (arith, draws, more)

-- so the message was not too long
signs-short : (sign : ToSign) (old new : Seen Lease TableName) (port now : PortState) (outcome : Result Signature SignFault)
    → SignsInTurns sign old port new now outcome → old.draws < new.draws → length sign.message ≤ 16777216
signs-short sign old new port now outcome (signing.too_long long unread) drawn = absurd (omega (arith, drawn))
signs-short sign old new port now outcome (signing.not_leased after fault short unread turn) drawn = short
signs-short sign old new port now outcome (signing.leased leaf mid after later result short turn runs burns) drawn = short

module _ (request : Request) (leaf : ℕ) (desk : DeskState) (reference : ReferenceState) where
  abbrev Short : Type 0
  Short = length request.message ≤ 16777216

  signed-short : (old new : Stand) (one : Request) (signed : IsSigned desk reference old new one) → SignedWith request leaf signed → Short
  signed-short old new one signed with =
      subst (λ (r : Request). length r.message ≤ 16777216) (sym with.request_is)
      (signs-short _ old.pass new.pass old.port new.port one.outcome signed.signs (came-draws leaf signed.shows with.leaf_is))

  answered-short : (old new : Stand) (requests : List Request) (replies : ℕ) (ended : Option ServedEnd) (answers : Answers desk reference old requests replies ended new)
      → AnsweredWith request leaf answers → Short
  answered-short old new requests replies ended (clients.no_request talk fault known none) with = absurd with
  answered-short old new requests replies ended (clients.no_room mid talk room replied) with = absurd with
  answered-short old new requests replies ended (clients.no_room_unanswered mid talk room failed) with = absurd with
  answered-short old new requests replies ended (clients.answered mid talk one exchange replied) with = signed-short old mid one exchange.signed with
  answered-short old new requests replies ended (clients.unanswered mid talk one exchange failed) with = signed-short old mid one exchange.signed with

  served-short : (old new : Stand) (requests : List Request) (replies : ℕ) (end : ServedEnd) (serves : Serves desk reference old requests replies end new)
      → ServedWith request leaf serves → Short
  served-short old new requests replies end (clients.ended at last asked many by answers) with = answered-short old new requests replies (Some end) answers with
  served-short old new requests replies end (clients.more at mid last asked others many rest by answers serves) (inl with) = answered-short old mid asked many _ answers with
  served-short old new requests replies end (clients.more at mid last asked others many rest by answers serves) (inr with) = served-short mid new others rest end serves with
  served-short old new requests replies end (clients.full at) with = absurd with

  worked-short : (old new : WorkerParts) (served : List Connection) (works : Works desk reference old served new) → WorkedWith request leaf works → Short
  worked-short old new served (connections.left at port leaves) with = absurd with
  worked-short old new served (connections.next at mid last one others link works) (inl with) = served-short _ _ one.requests one.served.frames one.served.ended link.serves with
  worked-short old new served (connections.next at mid last one others link works) (inr with) = worked-short mid new others works with

pub used-short : {desk : DeskState} {asked : ℕ} {old new : TableSeen} {places_old places_new : List Place} {totals : Totals}
    (all : ServedClients desk asked old new places_old places_new totals) (request : Request) (leaf : ℕ) → Uses all request leaf → length request.message ≤ 16777216
used-short {desk} all request leaf uses = worked-short request leaf desk _ _ _ _ (all.are uses.port uses.none uses.within).works uses.came
