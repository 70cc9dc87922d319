-- Each request at a port came to a leaf, or its outcome is one before which no leaf was leased.
use Rattle.std.proofs.Common.{◌≡◌, ◌⊎◌, ◌<◌, ℕ, zero, suc, List, [], ◌∷◌, length, get_or, Contains, Option, None, Some, Result, Ok, Err, IfOk, inl, inr, refl, sym, subst, arith}
use Rattle.std.proofs.lemmas.List.Elements.{Contains-append_cases}
use Rattle.aggregator_session.specs.Desks.{DeskState}
use Rattle.aggregator_session.specs.declared.fault.SignFault.{SignFault}
use Rattle.laws_commands.specs.Uses.{AnsweredWith, CameTo, Comes, IsUnleased, ServedWith, SignedWith, Uses, WorkedWith}
use Rattle.aggregator_node.specs.Clients.{Answers, IsSigned, ReferenceState, Request, Serves, Stand}
use Rattle.aggregator_node.specs.Clients as clients
use Rattle.aggregator_node.specs.Logs.{Shows}
use Rattle.aggregator_node.specs.Logs as logs
use Rattle.aggregator_node.specs.Ports.{Place, PortRun, ServedClients, requests_in}
use Rattle.aggregator_node.specs.Connections.{Connection, WorkerParts, Works, requests_of}
use Rattle.aggregator_node.specs.Connections as connections
use Rattle.coalition_map.specs.Coalitions.{PlanNumbers}
use Rattle.leaf_table.specs.declared.lease.Lease.{Lease}
use Rattle.leaf_table.specs.declared.table.TableName.{TableName}
use Rattle.aggregator_session.specs.Signing.{Signature, signed_with}
use Rattle.aggregator_session.specs.Tables.{TableSeen}
use Rattle.lms_bytes.specs.declared.message.MessageId.{MessageId}
use Rattle.node_workers.specs.declared.served.ServedEnd.{ServedEnd}
use Rattle.stream_io.specs.declared.totals.Totals.{Totals}
use Rattle.turn_lock.specs.Pass.{Seen}

-- nothing is in an empty list, and one thing in a list of one
in-none : {A : Type 0} (x : A) → Contains [] x → ⊥
in-none x (k, within, is) = absurd (omega arith)

in-one : {A : Type 0} (y x : A) → Contains (y ∷ []) x → x ≡ y
in-one y x (zero, within, is) = sym is
in-one y x (suc k, within, is) = absurd (omega arith)

-- the outcome is unleased, or this holds for a leaf which is that of the signature, if there is one
abbrev ComesTo : Result Signature SignFault → (ℕ → Type 0) → Type 0
ComesTo outcome Is = IsUnleased outcome ⊎ ((leaf : ℕ) × IfOk outcome (λ signature. signature.leaf ≡ leaf) × Is leaf)

weaker : (outcome : Result Signature SignFault) (Is Has : ℕ → Type 0) → ((leaf : ℕ) → Is leaf → Has leaf) → ComesTo outcome Is → ComesTo outcome Has
weaker outcome Is Has then (inl unleased) = inl unleased
weaker outcome Is Has then (inr (leaf, same, is)) = inr (leaf, same, then leaf is)

own-leaf : (leaf : ℕ) (result : Result (List ℕ) SignFault) → IfOk (signed_with leaf result) (λ signature. signature.leaf ≡ leaf)
own-leaf leaf (Ok bytes) = refl
own-leaf leaf (Err fault) = tt

shows-come : {plan : PlanNumbers} {members : List ℕ} {message : MessageId} {old new : Seen Lease TableName} (outcome : Result Signature SignFault) (added : List Lease)
    (shows : Shows plan members message old new outcome added) → ComesTo outcome (λ leaf. CameTo leaf shows)
shows-come outcome added (logs.too_long got same) = inl tt
shows-come outcome added (logs.no_turn turn) = inl tt
shows-come outcome added (logs.refused why refuses draws) = inl tt
shows-come outcome added (logs.leased own more burning result lease draws burnt is_burning) = inr (own, own-leaf own result, refl)

module _ (request : Request) (desk : DeskState) (reference : ReferenceState) where
  abbrev Came : (ℕ → Type 0) → Type 0
  Came Is = ComesTo request.outcome Is

  signed-come : (old new : Stand) (one : Request) (signed : IsSigned desk reference old new one) → request ≡ one → Came (λ leaf. SignedWith request leaf signed)
  signed-come old new one signed is =
      weaker request.outcome (λ leaf. CameTo leaf signed.shows) (λ leaf. SignedWith request leaf signed) (λ leaf came. record { request_is = is; leaf_is = came })
      (subst (λ (r : Request). ComesTo r.outcome (λ leaf. CameTo leaf signed.shows)) (sym is) (shows-come one.outcome one.added signed.shows))

  answered-come : (old new : Stand) (requests : List Request) (replies : ℕ) (ended : Option ServedEnd) (answers : Answers desk reference old requests replies ended new)
      → Contains requests request → Came (λ leaf. AnsweredWith request leaf answers)
  answered-come old new requests replies ended (clients.no_request talk fault known none) has = absurd (in-none request has)
  answered-come old new requests replies ended (clients.no_room mid talk room replied) has = absurd (in-none request has)
  answered-come old new requests replies ended (clients.no_room_unanswered mid talk room failed) has = absurd (in-none request has)
  answered-come old new requests replies ended (clients.answered mid talk one exchange replied) has = signed-come old mid one exchange.signed (in-one one request has)
  answered-come old new requests replies ended (clients.unanswered mid talk one exchange failed) has = signed-come old mid one exchange.signed (in-one one request has)

  served-come : (old new : Stand) (requests : List Request) (replies : ℕ) (end : ServedEnd) (serves : Serves desk reference old requests replies end new)
      → Contains requests request → Came (λ leaf. ServedWith request leaf serves)
  served-come old new requests replies end (clients.ended at last asked many by answers) has = answered-come old new requests replies (Some end) answers has
  served-come old new requests replies end (clients.more at mid last asked others many rest by answers serves) has =
      let whole = clients.more old mid new asked others many rest end answers serves in
      elim (Contains-append_cases asked others request has) [
        | inl first ↦
            weaker request.outcome (λ leaf. AnsweredWith request leaf answers) (λ leaf. ServedWith request leaf whole) (λ leaf came. inl came)
            (answered-come old mid asked many None answers first)
        | inr later ↦
            weaker request.outcome (λ leaf. ServedWith request leaf serves) (λ leaf. ServedWith request leaf whole) (λ leaf came. inr came)
            (served-come mid new others rest end serves later)
      ]
  served-come old new requests replies end (clients.full at) has = absurd (in-none request has)

  worked-come : (old new : WorkerParts) (served : List Connection) (works : Works desk reference old served new) → Contains (requests_of served) request
      → Came (λ leaf. WorkedWith request leaf works)
  worked-come old new served (connections.left at port leaves) has = absurd (in-none request has)
  worked-come old new served (connections.next at mid last one others link works) has =
      let whole = connections.next old mid new one others link works in
      elim (Contains-append_cases one.requests (requests_of others) request has) [
        | inl first ↦
            weaker request.outcome (λ leaf. ServedWith request leaf link.serves) (λ leaf. WorkedWith request leaf whole) (λ leaf came. inl came)
            (served-come _ _ one.requests one.served.frames one.served.ended link.serves first)
        | inr later ↦
            weaker request.outcome (λ leaf. WorkedWith request leaf works) (λ leaf. WorkedWith request leaf whole) (λ leaf came. inr came)
            (worked-come mid new others works later)
      ]

-- the port of a request
record At (runs : List PortRun) (request : Request) : Type 0 where
  port : ℕ
  none : PortRun
  within : port < length runs
  has : Contains (requests_of (get_or runs port none).served) request

at-port : (runs : List PortRun) (request : Request) → Contains (requests_in runs) request → At runs request
at-port [] request has = absurd (in-none request has)
at-port (run ∷ runs) request has = elim (Contains-append_cases (requests_of run.served) (requests_in runs) request has) [
  | inl here ↦ record { port = 0; none = run; within = omega arith; has = here }
  | inr there ↦
      let later = at-port runs request there in
      let bound = later.within in
      record { port = suc later.port; none = later.none; within = omega (arith, bound); has = later.has }
]

pub request-comes : {desk : DeskState} {asked : ℕ} {old new : TableSeen} {places_old places_new : List Place} {totals : Totals}
    (all : ServedClients desk asked old new places_old places_new totals) (request : Request) → Contains (requests_in all.runs) request
    → Comes all request
request-comes {desk} all request has =
    let at = at-port all.runs request has in
    let run = all.are at.port at.none at.within in
    weaker request.outcome (λ leaf. WorkedWith request leaf run.works) (λ leaf. Uses all request leaf)
    (λ leaf came. record { port = at.port; none = at.none; within = at.within; came = came })
    (worked-come request desk _ _ _ _ run.works at.has)
