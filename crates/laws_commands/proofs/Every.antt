-- Every request of a run for which all is well comes to an answer.
use Rattle.std.proofs.Common.{◌≡◌, ◌<◌, ℕ, zero, suc, List, [], ◌∷◌, All, length, get_or, Option, None, Some, Result, Err, IsTrue, IsSomeAnd, sym, subst, ◌∙◌, arith}
use Rattle.std.proofs.lemmas.List.{get_or-map, length-map}
use Rattle.aggregator_session.specs.Desks.{DeskState}
use Rattle.aggregator_session.specs.declared.fault.SignFault.{SignFault}
use Rattle.aggregator_session.specs.declared.fault.SignFault.TheVariants as sign
use Rattle.laws_commands.specs.Every.{AllAnswered, EachServed, EachWorked, IsAnswered, OneAnswered}
use Rattle.laws_commands.specs.Requests.{IsAnswer, IsComplete, IsDealtDesk, IsDealtRun, IsDealtTable, answer, worn}
use Rattle.laws_commands.proofs.Answered.{request-complete}
use Rattle.laws_commands.proofs.Desks.{plan-is}
use Rattle.aggregator_node.specs.Clients.{Answers, IsSigned, Request, Serves, Stand}
use Rattle.aggregator_node.specs.Clients as clients
use Rattle.aggregator_node.specs.Ports.{Place, PortRun, requests_in}
use Rattle.aggregator_node.specs.Connections.{Connection, WorkerParts, Works, requests_of, with_status}
use Rattle.aggregator_node.specs.Connections as connections
use Rattle.aggregator_node.proofs.Serving.{serves-go}
use Rattle.aggregator_node.proofs.Statuses.{is_status, with_status-append}
use Rattle.leaf_table.specs.declared.lease.Lease.{Lease}
use Rattle.leaf_table.specs.declared.table.TableName.{TableName}
use Rattle.aggregator_session.specs.Signing.{Signature}
use Rattle.lms_verify.specs.UndividedKey.{UndividedKey}
use Rattle.reference_value.specs.Dealing.{Dealing}
use Rattle.share_files.specs.declared.reference.RefHeader.{RefHeader}
use Rattle.tool_base.specs.Ending.{Ending}
use Rattle.tool_base.specs.World.{StoreRun}
use Rattle.tool_aggregate.specs.Desks.{ReadsReference}
use Rattle.tool_aggregate.specs.Serving.{ServedTable}
use Rattle.tool_sign.specs.Ports.{NetRun}
use Rattle.tool_words.specs.Words.{AggregateWords}
use Rattle.node_workers.specs.declared.served.ServedEnd.{ServedEnd}
use Rattle.turn_lock.specs.Pass.{Seen}

-- a request without status 16 did not meet a worn pass
unworn : (request : Request) → with_status 16 (request ∷ []) ≡ 0 → request.outcome ≡ Err sign.Worn → ⊥
unworn request none is =
    let own : is_status 16 request.outcome ≡ 0 = omega (arith, none) in
    let never : is_status 16 (Err sign.Worn) ≡ 0 = subst (λ (o : Result Signature SignFault). is_status 16 o ≡ 0) is own in
    omega (arith, never)

-- none of all requests has status 16, so no request of a port has it
port-unworn : (runs : List PortRun) (port : ℕ) (none : PortRun) → port < length runs → with_status 16 (requests_in runs) ≡ 0
    → with_status 16 (requests_of (get_or runs port none).served) ≡ 0
port-unworn [] port none within fresh = absurd (omega (arith, within))
port-unworn (run ∷ runs) zero none within fresh = omega (arith, fresh, with_status-append 16 (requests_of run.served) (requests_in runs))
port-unworn (run ∷ runs) (suc port) none within fresh =
    port-unworn runs port none (omega (arith, within)) (omega (arith, fresh, with_status-append 16 (requests_of run.served) (requests_in runs)))

-- if the pass is not worn, a complete outcome is an answer
is-answer : (d : Dealing) (key : UndividedKey) (message : List ℕ) (pass : Seen Lease TableName) (outcome : Result Signature SignFault) → IsComplete d key message pass outcome
    → (outcome ≡ Err sign.Worn → ⊥) → IsAnswer d key message outcome
is-answer d key message pass outcome (answer is) fresh = is
is-answer d key message pass outcome (worn is large) fresh = absurd (fresh is)

module _ (words : AggregateWords) (store : StoreRun) (d : Dealing) (key : UndividedKey) (header : RefHeader) (desk : DeskState) (place : Place)
    (dealt : IsDealtDesk words store d key header desk place) where
  -- the table of this name is of the dealing's plan
  abbrev Fits : Option TableName → Type 0
  Fits o = IsSomeAnd o (λ (name : TableName). (name.plan ≡ d.plan) × IsTrue name.told)

  signed-answered : (old new : Stand) (request : Request) (s : IsSigned desk place.reference old new request) → IsDealtTable d old.pass → with_status 16 (request ∷ []) ≡ 0
      → IsAnswered words d key s
  signed-answered old new request s fits fresh = λ well.
      is-answer d key request.message new.pass request.outcome (request-complete words store d key header desk place dealt old new request fits s well) (unworn request fresh)

  one-answered : (old new : Stand) (requests : List Request) (replies : ℕ) (ended : Option ServedEnd) (answers : Answers desk place.reference old requests replies ended new)
      → IsDealtTable d old.pass → with_status 16 requests ≡ 0 → OneAnswered words d key answers
  one-answered old new requests replies ended (clients.no_request talk fault known none) fits fresh = tt
  one-answered old new requests replies ended (clients.no_room mid talk room replied) fits fresh = tt
  one-answered old new requests replies ended (clients.no_room_unanswered mid talk room failed) fits fresh = tt
  one-answered old new requests replies ended (clients.answered mid talk one exchange replied) fits fresh = signed-answered old mid one exchange.signed fits fresh
  one-answered old new requests replies ended (clients.unanswered mid talk one exchange failed) fits fresh = signed-answered old mid one exchange.signed fits fresh

  each-served : (old new : Stand) (requests : List Request) (replies : ℕ) (end : ServedEnd) (serves : Serves desk place.reference old requests replies end new)
      → IsDealtTable d old.pass → with_status 16 requests ≡ 0 → EachServed words d key serves
  each-served old new requests replies end (clients.ended at last asked many by answers) fits fresh = one-answered old new requests replies (Some end) answers fits fresh
  each-served old new requests replies end (clients.more at mid last asked others many rest by answers serves) fits fresh =
      let whole = clients.more old mid new asked others many rest end answers serves in
      let first = (serves-go desk place.reference old new requests replies end whole).steps.same.name in
      let second = (serves-go desk place.reference mid new others rest end serves).steps.same.name in
      let both = with_status-append 16 asked others in (
        one-answered old mid asked many None answers fits (omega (arith, fresh, both)),
        each-served mid new others rest end serves (subst Fits (sym first ∙ second) fits) (omega (arith, fresh, both)),
      )
  each-served old new requests replies end (clients.full at) fits fresh = tt

  each-worked : (old new : WorkerParts) (served : List Connection) (works : Works desk place.reference old served new) → IsDealtTable d old.pass → with_status 16 (requests_of served) ≡ 0
      → EachWorked words d key works
  each-worked old new served (connections.left at port leaves) fits fresh = tt
  each-worked old new served (connections.next at mid last one others link works) fits fresh =
      let name = (serves-go desk place.reference _ _ one.requests one.served.frames one.served.ended link.serves).steps.same.name in
      let both = with_status-append 16 one.requests (requests_of others) in (
        each-served _ _ one.requests one.served.frames one.served.ended link.serves fits (omega (arith, fresh, both)),
        each-worked mid new others works (subst Fits (sym name) fits) (omega (arith, fresh, both)),
      )

module _ (words : AggregateWords) (store : StoreRun) (net : NetRun) (header : RefHeader) (desk : DeskState) (end : Ending) (d : Dealing) (key : UndividedKey)
    (run : ServedTable words store net header desk end) (dealt : IsDealtRun words store d key header desk) where
  abbrev runs : List PortRun
  runs = run.serves.over.served.runs

  -- the worker of each port reads the reference of the dealing
  dealt-at : (port : ℕ) (none : PortRun) → port < length runs → IsDealtDesk words store d key header desk (get_or runs port none).before
  dealt-at port none within = record {
    made = dealt;
    reads =
        subst (ReadsReference words store header) (get_or-map (λ (r : PortRun). r.before) runs port none none.before within)
        (subst (All (ReadsReference words store header)) (sym run.serves.over.served.before) run.reads port none.before
        (omega (arith, within, length-map runs (λ (r : PortRun). r.before))));
  }

  pub run-answered : AllAnswered words d key run.serves.over.served
  run-answered port none within =
      let is = run.serves.over.served.are port none within in
      let here = (get_or runs port none).before in
      let desk_at = dealt-at port none within in
      let fresh = run.serves.fresh in
      each-worked words store d key header desk here desk_at _ _ (get_or runs port none).served is.works
      (subst (Fits words store d key header desk here desk_at) (sym is.named) (fresh.plan_is ∙ plan-is words store d key header desk here desk_at, fresh.told dealt.told))
      (port-unworn runs port none within run.serves.over.served.failures.worn)
