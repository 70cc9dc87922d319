-- A connection: what its requests did to pass, reference and port.
use Rattle.std.proofs.Common.{◌≡◌, ◌+◌, ◌^◌, ◌≤◌, ◌++◌, ℕ, List, [], Option, None, Some, Result, Ok, Err, length, refl, ap, ◌∙◌, subst, arith, length-append}
use Rattle.aggregator_session.specs.Desks.{DeskState}
use Rattle.aggregator_session.specs.declared.fault.SignFault.{SignFault}
use Rattle.aggregator_session.specs.declared.fault.SignFault.TheVariants as sign
use Rattle.aggregator_node.specs.Clients.{Answers, HasAnswered, HasServed, ReferenceState, Request, SameReference, Serves, Stand, end_after}
use Rattle.aggregator_node.specs.Clients as clients
use Rattle.aggregator_node.proofs.Answering.{answers_told}
use Rattle.aggregator_node.proofs.Requests.{Goes, goes-none, goes-one, goes-then}
use Rattle.aggregator_node.proofs.PortTurns.{signs-worn}
use Rattle.aggregator_session.specs.Signing.{Signature}
use Rattle.round_frames.specs.declared.fault.FrameFault.{FrameFault}
use Rattle.round_frames.specs.declared.fault.FrameFault.TheVariants as frame
use Rattle.session_core.specs.declared.faults.SessionFault.TheVariants as session
use Rattle.stream_io.specs.Net.{PortOnward, PortState}
use Rattle.node_workers.proofs.Onward.{onward-same, onward-then}
use Rattle.node_workers.specs.Ends.{end_by}
use Rattle.node_workers.specs.declared.served.ServedEnd.{ServedEnd}
use Rattle.node_workers.specs.declared.served.ServedEnd.TheVariants.{Full, Worn}

-- a port at which no link was accepted
pub record Dialled (old new : PortState) : Type 0 where
  pub onward : PortOnward old new
  pub accepting : new.accept_count ≡ old.accept_count

dialled-none : (port : PortState) → Dialled port port
dialled-none port = record { onward = onward-same port; accepting = refl }

dialled-then : (old mid new : PortState) → Dialled old mid → Dialled mid new → Dialled old new
dialled-then old mid new a b = record { onward = onward-then old mid new a.onward b.onward; accepting = b.accepting ∙ a.accepting }

-- no fault of a frame tells of a worn pass
never-worn : (fault : FrameFault) → Some (end_by fault) ≡ Some Worn → ⊥
never-worn frame.End is = absurd (cc)
never-worn frame.Cut is = absurd (cc)
never-worn frame.Magic is = absurd (cc)
never-worn (frame.Kind got) is = absurd (cc)
never-worn (frame.TooLong got) is = absurd (cc)
never-worn frame.Shape is = absurd (cc)
never-worn frame.ReadFault is = absurd (cc)
never-worn frame.NoMemory is = absurd (cc)

-- a connection that ends because of a worn pass had a request that met it
ends-worn : (outcome : Result Signature SignFault) → end_after outcome ≡ Some Worn → outcome ≡ Err sign.Worn
ends-worn (Ok signature) is = absurd (cc)
ends-worn (Err (sign.TooLong got)) is = absurd (cc)
ends-worn (Err sign.Worn) is = refl
ends-worn (Err (sign.Table fault)) is = absurd (cc)
ends-worn (Err (sign.Lost member round why)) is = absurd (cc)
ends-worn (Err (sign.Stray member round)) is = absurd (cc)
ends-worn (Err (sign.Session (session.Missing member round))) is = absurd (cc)
ends-worn (Err (sign.Session (session.SpentLeaf leaf member kept))) is = absurd (cc)
ends-worn (Err (sign.Session (session.WrongCheck leaf member))) is = absurd (cc)
ends-worn (Err (sign.Session (session.WrongRoot leaf got want))) is = absurd (cc)
ends-worn (Err (sign.Session (session.MemberRefused member code))) is = absurd (cc)
ends-worn (Err (sign.Session session.Reference)) is = absurd (cc)
ends-worn (Err (sign.Session session.NoMemory)) is = absurd (cc)
ends-worn (Err sign.NoMemory) is = absurd (cc)

module _ (desk : DeskState) (reference : ReferenceState) where
  answers-go : (old new : Stand) (requests : List Request) (replies : ℕ) (ended : Option ServedEnd) → Answers desk reference old requests replies ended new
      → Goes desk reference old.pass new.pass old.faults new.faults requests
  answers-go old new requests replies ended (clients.no_request talk fault other none) = goes-none desk reference old.pass old.faults
  answers-go old new requests replies ended (clients.no_room mid talk room replied) = goes-none desk reference old.pass old.faults
  answers-go old new requests replies ended (clients.no_room_unanswered mid talk room failed) = goes-none desk reference old.pass old.faults
  answers-go old new requests replies ended (clients.answered mid talk request exchange replied) = goes-one desk reference old mid request exchange.signed
  answers-go old new requests replies ended (clients.unanswered mid talk request exchange failed) = goes-one desk reference old mid request exchange.signed

  answers-port : (old new : Stand) (requests : List Request) (replies : ℕ) (ended : Option ServedEnd) → Answers desk reference old requests replies ended new → Dialled old.port new.port
  answers-port old new requests replies ended (clients.no_request talk fault other none) = dialled-none old.port
  answers-port old new requests replies ended (clients.no_room mid talk room replied) = dialled-none old.port
  answers-port old new requests replies ended (clients.no_room_unanswered mid talk room failed) = dialled-none old.port
  answers-port old new requests replies ended (clients.answered mid talk request exchange replied) =
      record { onward = exchange.signed.port.onward; accepting = exchange.signed.port.accepting }
  answers-port old new requests replies ended (clients.unanswered mid talk request exchange failed) =
      record { onward = exchange.signed.port.onward; accepting = exchange.signed.port.accepting }

  -- a request that is not the last is answered
  answers-few : (old new : Stand) (requests : List Request) (replies : ℕ) (ended : Option ServedEnd) → Answers desk reference old requests replies ended new
      → length requests ≤ replies + 1
  answers-few old new requests replies ended (clients.no_request talk fault other none) = omega arith
  answers-few old new requests replies ended (clients.no_room mid talk room replied) = omega arith
  answers-few old new requests replies ended (clients.no_room_unanswered mid talk room failed) = omega arith
  answers-few old new requests replies ended (clients.answered mid talk request exchange replied) = omega arith
  answers-few old new requests replies ended (clients.unanswered mid talk request exchange failed) = omega arith

  answers-more : (old new : Stand) (requests : List Request) (replies : ℕ) (ended : Option ServedEnd) → Answers desk reference old requests replies ended new → ended ≡ None
      → length requests ≤ replies
  answers-more old new requests replies ended (clients.no_request talk fault other none) is = absurd (cc)
  answers-more old new requests replies ended (clients.no_room mid talk room replied) is = absurd (cc)
  answers-more old new requests replies ended (clients.no_room_unanswered mid talk room failed) is = absurd (cc)
  answers-more old new requests replies ended (clients.answered mid talk request exchange replied) is = omega arith
  answers-more old new requests replies ended (clients.unanswered mid talk request exchange failed) is = absurd (cc)

  answers-worn : (old new : Stand) (requests : List Request) (replies : ℕ) (ended : Option ServedEnd) → Answers desk reference old requests replies ended new → ended ≡ Some Worn
      → 2 ^ 62 ≤ new.pass.greatest
  answers-worn old new requests replies ended (clients.no_request talk fault other none) is = absurd (never-worn fault is)
  answers-worn old new requests replies ended (clients.no_room mid talk room replied) is = absurd (cc)
  answers-worn old new requests replies ended (clients.no_room_unanswered mid talk room failed) is = absurd (cc)
  answers-worn old new requests replies ended (clients.answered mid talk request exchange replied) is =
      signs-worn _ _ _ _ _ _ exchange.signed.signs (ends-worn request.outcome is)
  answers-worn old new requests replies ended (clients.unanswered mid talk request exchange failed) is = absurd (cc)

  pub serves-go : (old new : Stand) (requests : List Request) (replies : ℕ) (end : ServedEnd) → Serves desk reference old requests replies end new
      → Goes desk reference old.pass new.pass old.faults new.faults requests
  serves-go old new requests replies end (clients.ended at last asked many by answers) = answers-go old new requests replies (Some end) answers
  serves-go old new requests replies end (clients.more at mid last asked others many later by answers served) =
      goes-then desk reference old.pass mid.pass new.pass old.faults mid.faults new.faults asked others
      (answers-go old mid asked many None answers) (serves-go mid new others later end served)
  serves-go old new requests replies end (clients.full at) = goes-none desk reference old.pass old.faults

  pub serves-port : (old new : Stand) (requests : List Request) (replies : ℕ) (end : ServedEnd) → Serves desk reference old requests replies end new → Dialled old.port new.port
  serves-port old new requests replies end (clients.ended at last asked many by answers) = answers-port old new requests replies (Some end) answers
  serves-port old new requests replies end (clients.more at mid last asked others many later by answers served) =
      dialled-then old.port mid.port new.port (answers-port old mid asked many None answers) (serves-port mid new others later end served)
  serves-port old new requests replies end (clients.full at) = dialled-none old.port

  pub serves-few : (old new : Stand) (requests : List Request) (replies : ℕ) (end : ServedEnd) → Serves desk reference old requests replies end new → length requests ≤ replies + 1
  serves-few old new requests replies end (clients.ended at last asked many by answers) = answers-few old new requests replies (Some end) answers
  serves-few old new requests replies end (clients.more at mid last asked others many later by answers served) =
      let first = answers-more old mid asked many None answers refl in
      let rest = serves-few mid new others later end served in
      omega (arith, first, rest, length-append asked others)
  serves-few old new requests replies end (clients.full at) = omega arith

  pub serves-worn : (old new : Stand) (requests : List Request) (replies : ℕ) (end : ServedEnd) → Serves desk reference old requests replies end new → end ≡ Worn
      → 2 ^ 62 ≤ new.pass.greatest
  serves-worn old new requests replies end (clients.ended at last asked many by answers) is = answers-worn old new requests replies (Some end) answers (ap Some is)
  serves-worn old new requests replies end (clients.more at mid last asked others many later by answers served) is = serves-worn mid new others later end served is
  serves-worn old new requests replies end (clients.full at) is = absurd (cc)

-- what is said about the reference later is also said about it as it was
pub serves-told : (desk : DeskState) (before reference : ReferenceState) (old new : Stand) (requests : List Request) (replies : ℕ) (end : ServedEnd)
    → SameReference before reference → Serves desk reference old requests replies end new → Serves desk before old requests replies end new
serves-told desk before reference old new requests replies end same (clients.ended at last asked many by answers) =
    clients.ended old new requests replies end (answers_told desk before reference old new requests replies (Some end) same answers)
serves-told desk before reference old new requests replies end same (clients.more at mid last asked others many later by answers served) =
    clients.more old mid new asked others many later end (answers_told desk before reference old mid asked many None same answers)
    (serves-told desk before reference mid new others later end same served)
serves-told desk before reference old new requests replies end same (clients.full at) = clients.full old

add-none : (n : ℕ) → n + 0 ≡ n
add-none n = omega arith

none-add : (n : ℕ) → n ≡ 0 + n
none-add n = omega arith

add-more : (n replies later : ℕ) → n + (replies + later) ≡ n + replies + later
add-more n replies later = omega arith

-- what comes of a connection from its start, by what comes of it from where it stands
pub leads-none : {desk : DeskState} {reference : ReferenceState} {start : Stand} (requests : List Request) (replies : ℕ) (end : ServedEnd) (last : Stand)
    → Serves desk reference start requests replies end last → HasServed desk reference start last (0 + replies) end
leads-none {desk} {reference} {start} requests replies end last served =
    subst (λ (n : ℕ). HasServed desk reference start last n end) (none-add replies) (record { requests = requests; serves = served })

module _ {desk : DeskState} {before reference : ReferenceState} {start old new : Stand} (frames replies : ℕ) {ended : Option ServedEnd}
    (goes : (requests : List Request) (many : ℕ) (end : ServedEnd) (last : Stand) → Serves desk before old requests many end last → HasServed desk before start last (frames + many) end)
    (same : SameReference before reference) (a : HasAnswered desk reference old new replies ended) where
  told : Answers desk before old a.requests replies ended new
  told = answers_told desk before reference old new a.requests replies ended same a.answers

  pub leads-end : {end : ServedEnd} → ended ≡ Some end → HasServed desk before start new (frames + replies) end
  leads-end {end} is = goes a.requests replies end new
      (clients.ended old new a.requests replies end (subst (λ (o : Option ServedEnd). Answers desk before old a.requests replies o new) is told))

  pub leads-more : ended ≡ None → (requests : List Request) (many : ℕ) (end : ServedEnd) (last : Stand) → Serves desk before new requests many end last
      → HasServed desk before start last (frames + replies + many) end
  leads-more is requests many end last served =
      subst (λ (n : ℕ). HasServed desk before start last n end) (add-more frames replies many)
      (goes (a.requests ++ requests) (replies + many) end last
      (clients.more old new last a.requests requests replies many end (subst (λ (o : Option ServedEnd). Answers desk before old a.requests replies o new) is told) served))

pub leads-full : {desk : DeskState} {reference : ReferenceState} {start old : Stand} (frames : ℕ)
    → ((requests : List Request) (many : ℕ) (end : ServedEnd) (last : Stand) → Serves desk reference old requests many end last → HasServed desk reference start last (frames + many) end)
    → HasServed desk reference start old frames Full
leads-full {desk} {reference} {start} {old} frames goes =
    subst (λ (n : ℕ). HasServed desk reference start old n Full) (add-none frames) (goes [] 0 Full old (clients.full old))
