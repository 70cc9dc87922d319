-- Round two, if the members' links gave the dealer's masks.
use Rattle.std.proofs.Common.{◌≡◌, ◌++◌, ◌+◌, ℕ, ◌==◌, true, List, [], ◌∷◌, All, IsTrue, Some, Result, Ok, Err, map, refl, sym, ap, subst, ◌∙◌, append-nil, arith}
use Rattle.std.specs.List.{AllZip}
use Rattle.std.proofs.lemmas.List.Elements.{All-append, All-cons, All-head, All-nil, All-tail}
use Rattle.aggregator_session.specs.Hearing.{Asked, hear, is_masks, kept_in}
use Rattle.aggregator_session.specs.Runs.{Calls, First, Second, SecondFrames, dialled, first_all, first_answered, first_lost, first_refused, nowhere, second_all, second_answered, second_lost, second_refused, second_unread, undialled}
use Rattle.aggregator_session.specs.declared.desk.Address.{Address}
use Rattle.aggregator_session.specs.declared.fault.SignFault.{SignFault}
use Rattle.aggregator_session.specs.declared.fault.SignFault.TheVariants.{Session}
use Rattle.coalition_map.specs.Coalitions.{PlanNumbers, leaf_members}
use Rattle.coalition_map.specs.Members.{IsAscendingIn}
use Rattle.lms_bytes.specs.declared.ask.ReplyHead.{ReplyHead}
use Rattle.lms_bytes.specs.declared.message.MessageId.{MessageId}
use Rattle.lms_bytes.specs.declared.public_key.PublicKey.{PublicKey}
use Rattle.reference_value.specs.Dealing.{Dealing, leaf_randomizer, random_mask}
use Rattle.round_frames.specs.Replies.{Reply}
use Rattle.session_core.specs.Replies.{with_delivery}
use Rattle.session_core.specs.Seats.{Seat, empty_seat, filled_seat, has_seat, is_filled, seat_of, with_reply}
use Rattle.session_core.specs.State.{State, body_room, started}
use Rattle.session_core.specs.declared.faults.SessionFault.TheVariants.{Reference}
use Rattle.stream_io.specs.Net.{PortState}
use Rattle.stream_io.specs.Talk.{Talk}
use Rattle.laws_signing.specs.Answering.{AllGave, Answers, Gave, message_masks, second_round}
use Rattle.laws_signing.proofs.Hearing.{Later, SameEar, Taken, asked-hears, asked-later, asked-taken, hear-same}
use Rattle.laws_signing.proofs.RoundOne.{Ready, start-waits}
use Rattle.laws_signing.proofs.Seats.{Front, IsBelow, Kept, Waits, answered, front-later, front-more, number, numbers-more, waits}

abbrev IsTold : Talk → Type 0
IsTold talk = IsTrue talk.told

-- the links of a port that tells its content tell theirs
call-told : (addresses : List Address) (ask : List ℕ) (s : State) (member : ℕ) (port after : PortState) (talks : List Talk) (answer : Result Reply SignFault)
    → Calls addresses ask s member port after talks answer → IsTrue port.told → All IsTold talks
call-told addresses ask s member port after talks answer (nowhere none) told = All-nil IsTold
call-told addresses ask s member port after talks answer (undialled place a at onward rose same nobody) told = All-nil IsTold
call-told addresses ask s member port after talks answer (dialled place begin talk steady a x at onward quiet made asks) told =
    All-cons IsTold talk [] ((asked-later s member ask begin talk x asks).told ∙ made.link.told told) (All-nil IsTold)

call-onward : (addresses : List Address) (ask : List ℕ) (s : State) (member : ℕ) (port after : PortState) (talks : List Talk) (answer : Result Reply SignFault)
    → Calls addresses ask s member port after talks answer → IsTrue port.told → IsTrue after.told
call-onward addresses ask s member port after talks answer (nowhere none) told = told
call-onward addresses ask s member port after talks answer (undialled place a at onward rose same nobody) told = onward.told ∙ told
call-onward addresses ask s member port after talks answer (dialled place begin talk steady a x at onward quiet made asks) told = onward.told ∙ told

pub first-told : (addresses : List Address) (ask : List ℕ) (port : PortState) (s : State) (members : List ℕ) (talks : List Talk) (last : State) (end : Result (Unit {0}) SignFault)
    → First addresses ask port s members talks last end → IsTrue port.told → All IsTold talks
first-told addresses ask port s members talks last end (first_all p x) told = All-nil IsTold
first-told addresses ask port s members talks last end (first_lost p after x member rest t why calls) told = call-told addresses ask x member p after t (Err why) calls told
first-told addresses ask port s members talks last end (first_refused p after x member rest t reply calls refused) told = call-told addresses ask x member p after t (Ok reply) calls told
first-told addresses ask port s members talks last end (first_answered p after x y member rest t later reply o calls granted next) told =
    All-append IsTold t later (call-told addresses ask x member p after t (Ok reply) calls told)
    (first-told addresses ask after (kept_in x (Ok reply)) rest later y o next (call-onward addresses ask x member p after t (Ok reply) calls told))

-- a session in round two with these seats
abbrev pub two : PublicKey → PlanNumbers → ℕ → MessageId → List ℕ → List Seat → List Seat → State
two key plan leaf id c firsts seats = record (started key plan leaf id) { c = Some c; first = firsts; second = seats }

ear-two : (key : PublicKey) (plan : PlanNumbers) (leaf : ℕ) (id : MessageId) (c : List ℕ) (f g xs ys : List Seat) (t room : ℕ) → Waits xs t room → Waits ys t room
    → SameEar (two key plan leaf id c f xs) (two key plan leaf id c g ys) t
ear-two key plan leaf id c f g xs ys t room a b = record {
  params = refl;
  round = refl;
  step = λ head body own.
      let has : has_seat xs head.member ≡ has_seat ys head.member = ap (has_seat xs) own ∙ (a.there ∙ (sym b.there ∙ sym (ap (has_seat ys) own))) in
      let filled : is_filled (seat_of xs head.member) ≡ is_filled (seat_of ys head.member) =
      ap (λ (m : ℕ). is_filled (seat_of xs m)) own ∙ (a.empty ∙ (sym b.empty ∙ sym (ap (λ (m : ℕ). is_filled (seat_of ys m)) own))) in
      rw (has, filled) refl;
}

deliver-two : (key : PublicKey) (plan : PlanNumbers) (leaf : ℕ) (id : MessageId) (c : List ℕ) (f front rest : List Seat) (t room : ℕ) (head : ReplyHead) (masks : List ℕ) → All (IsBelow t) front
    → head.code ≡ 0 → Taken (two key plan leaf id c f (front ++ empty_seat room t ∷ rest)) t (head, masks)
    → with_delivery (two key plan leaf id c f (front ++ empty_seat room t ∷ rest)) head masks ≡ two key plan leaf id c f ((front ++ filled_seat (empty_seat room t) 0 masks ∷ []) ++ rest)
deliver-two key plan leaf id c f front rest t room head masks below code taken =
    let seats : with_reply (front ++ empty_seat room t ∷ rest) head.member head.code masks ≡ (front ++ filled_seat (empty_seat room t) 0 masks ∷ []) ++ rest =
    ap (λ (m : ℕ). with_reply (front ++ empty_seat room t ∷ rest) m head.code masks) taken.own
    ∙ (ap (λ (k : ℕ). with_reply (front ++ empty_seat room t ∷ rest) t k masks) code ∙ answered front rest t room 0 masks below) in
    rw (taken.answers_it, taken.first) (ap (two key plan leaf id c f) seats)

module _ (d : Dealing) (key : PublicKey) (leaf : ℕ) (id : MessageId) (message : List ℕ) where
  abbrev start : State
  start = started key d.plan leaf id

  abbrev room_two : ℕ
  room_two = body_room key.params 2

  abbrev mask_two : ℕ → List ℕ
  mask_two = message_masks d start message

  abbrev random : List ℕ
  random = leaf_randomizer d leaf

  -- what a link gave before it was asked again
  gave-before : (member : ℕ) (old new : Talk) → Later old new → IsTrue old.told → Gave d start message member new → Gave d start message member old
  gave-before member old new later told gave =
      let count = later.count in
      let none = gave.faultless in
      record {
        rest = gave.rest;
        last = gave.last;
        first = subst (λ (bytes : List ℕ). Answers start member bytes (random_mask d leaf member) gave.rest) (later.given told) gave.first;
        second = gave.second;
        faultless = omega arith;
      }

  pub all-before : (frames : SecondFrames) (s : State) (members : List ℕ) (olds news : List Talk) (last : State) (end : Result (Unit {0}) SignFault)
      → Second frames s members olds news last end → All IsTold olds → AllGave d start message members news → AllGave d start message members olds
  all-before frames s members olds news last end (second_all x) tell gave = tt
  all-before frames s members olds news last end (second_unread x member rest o) tell gave = gave
  all-before frames s members olds news last end (second_lost x member rest ask old new o why framed asks) tell gave =
      (gave-before member old new (asked-later x member ask old new (Err why) asks) (All-head IsTold old o tell) gave.0, gave.1)
  all-before frames s members olds news last end (second_refused x member rest ask old new o reply framed asks refused) tell gave =
      (gave-before member old new (asked-later x member ask old new (Ok reply) asks) (All-head IsTold old o tell) gave.0, gave.1)
  all-before frames s members olds news last end (second_answered x y member rest ask old new o n reply e framed asks granted next) tell gave = (
    gave-before member old new (asked-later x member ask old new (Ok reply) asks) (All-head IsTold old o tell) gave.0,
    all-before frames (kept_in x (Ok reply)) rest o n y e next (All-tail IsTold old o tell) gave.1,
  )

  -- the session after round two
  pub record Ends (firsts : List Seat) (all : List ℕ) (last : State) (end : Result (Unit {0}) SignFault) : Type 0 where
    pub end_is : end ≡ Ok tt
    pub seats : List Seat
    pub last_is : last ≡ two key d.plan leaf id random firsts seats
    pub kept : All (Kept room_two mask_two) seats
    pub numbers : map number seats ≡ all

  -- a member was asked again, and answered with its masks
  record Told (s : State) (member : ℕ) (answer : Result Reply SignFault) : Type 0 where
    head : ReplyHead
    granted : head.code ≡ 0
    answer_is : answer ≡ Ok (head, mask_two member)
    taken : Taken s member (head, mask_two member)

  module _ (firsts : List Seat) where
    ask-goes : (s : State) (member : ℕ) (ask : List ℕ) (old new : Talk) (answer : Result Reply SignFault) (front : List Seat) (rest : List ℕ) → Asked s member ask old new answer
        → s ≡ two key d.plan leaf id random firsts (front ++ map (empty_seat room_two) (member ∷ rest)) → All (IsBelow member) front
        → map number front ++ member ∷ rest ≡ leaf_members d.plan leaf → Ready d start message member old → new.count ≡ 0 → Told s member answer
    ask-goes s member ask old new answer front rest asks is below all ready quiet =
        let all_members = leaf_members d.plan leaf in
        let ear = subst (λ (z : State). SameEar z (second_round d start) member) (sym is)
        (ear-two key d.plan leaf id random firsts start.first (front ++ map (empty_seat room_two) (member ∷ rest)) (map (empty_seat room_two) all_members) member room_two
        (waits front (map (empty_seat room_two) rest) member room_two below) (start-waits room_two member front rest all_members below all)) in
        let heard : hear s member 8 old.left ≡ record { answer = Ok (ready.second.head, mask_two member); rest = ready.last } = hear-same s (second_round d start) member 8 old.left ear ∙ ready.second.heard in
        let came = asked-hears s member ask old new answer (ready.second.head, mask_two member) ready.last asks ready.told quiet heard in
        record {
          head = ready.second.head;
          granted = ready.second.granted;
          answer_is = came.answer_is;
          taken = asked-taken s member ask old new answer (ready.second.head, mask_two member) asks came.answer_is;
        }

    pub second-goes : (frames : SecondFrames) (s : State) (members : List ℕ) (olds news : List Talk) (last : State) (end : Result (Unit {0}) SignFault)
        → Second frames s members olds news last end → (front : List Seat) (a e : ℕ)
        → s ≡ two key d.plan leaf id random firsts (front ++ map (empty_seat room_two) members) → Front room_two mask_two a front → IsAscendingIn a e members
        → map number front ++ members ≡ leaf_members d.plan leaf → (end ≡ Err (Session Reference) → ⊥) → AllZip (Ready d start message) members olds → AllGave d start message members news
        → Ends firsts (leaf_members d.plan leaf) last end
    second-goes frames s members olds news last end (second_all x) front a e is f ascending all read ready gave = record {
      end_is = refl;
      seats = front;
      last_is = is ∙ ap (two key d.plan leaf id random firsts) (append-nil front);
      kept = f.kept;
      numbers = sym (append-nil (map number front)) ∙ all;
    }
    second-goes frames s members olds news last end (second_unread x member rest o) front a e is f ascending all read ready gave = absurd (read refl)
    second-goes frames s members olds news last end (second_lost x member rest ask old new o why framed asks) front a e is f ascending all read ready gave =
        let g = front-later room_two mask_two a member front ascending.0 f in
        let c = ask-goes x member ask old new (Err why) front rest asks is g.below all ready.0 gave.0.faultless in
        let is_ok = c.answer_is in
        absurd (cc)
    second-goes frames s members olds news last end (second_refused x member rest ask old new o reply framed asks refused) front a e is f ascending all read ready gave =
        let g = front-later room_two mask_two a member front ascending.0 f in
        let c = ask-goes x member ask old new (Ok reply) front rest asks is g.below all ready.0 gave.0.faultless in
        let is_ok = c.answer_is in
        let same : reply ≡ (c.head, mask_two member) = cc in
        let granted : is_masks reply ≡ true = ap is_masks same ∙ ap (λ (n : ℕ). n == 0) c.granted in
        absurd (cc)
    second-goes frames s members olds news last end (second_answered x y member rest ask old new o n reply w framed asks granted next) front a e is f ascending all read ready gave =
        let g = front-later room_two mask_two a member front ascending.0 f in
        let c = ask-goes x member ask old new (Ok reply) front rest asks is g.below all ready.0 gave.0.faultless in
        let is_ok = c.answer_is in
        let same : reply ≡ (c.head, mask_two member) = cc in
        let taken = subst (λ (z : State). Taken z member (c.head, mask_two member)) is c.taken in
        let seat = filled_seat (empty_seat room_two member) 0 (mask_two member) in
        let state : kept_in x (Ok reply) ≡ two key d.plan leaf id random firsts ((front ++ seat ∷ []) ++ map (empty_seat room_two) rest) =
        ap (λ (r : Reply). with_delivery x r.0 r.1) same ∙ (ap (λ (z : State). with_delivery z c.head (mask_two member)) is
        ∙ deliver-two key d.plan leaf id random firsts front (map (empty_seat room_two) rest) member room_two c.head (mask_two member) g.below c.granted taken) in
        second-goes frames (kept_in x (Ok reply)) rest o n y w next (front ++ seat ∷ []) (member + 1) e state (front-more room_two mask_two member front g) ascending.2
        (numbers-more front seat rest ∙ all) read ready.1 gave.1
