-- Round one, if the members' links gave the dealer's masks.
use Rattle.std.proofs.Common.{◌≡◌, ◌++◌, ◌+◌, ℕ, ◌==◌, true, List, [], ◌∷◌, All, IsTrue, None, Result, Ok, Err, map, refl, sym, ap, subst, ◌∙◌, append-nil}
use Rattle.std.specs.List.{AllZip}
use Rattle.std.proofs.lemmas.List.Elements.{All-cons, All-head, All-nil, All-tail}
use Rattle.std.proofs.lemmas.List.{map-append}
use Rattle.aggregator_session.specs.Addresses.{place_of}
use Rattle.aggregator_session.specs.Faults.{LostBy}
use Rattle.aggregator_session.specs.Hearing.{hear, is_masks, kept_in}
use Rattle.aggregator_session.specs.Runs.{Calls, First, dialled, first_all, first_answered, first_lost, first_refused, nowhere, undialled}
use Rattle.aggregator_session.specs.declared.desk.Address.{Address}
use Rattle.aggregator_session.specs.declared.fault.SignFault.{SignFault}
use Rattle.aggregator_session.specs.declared.fault.Why.TheVariants.{DialFailed}
use Rattle.coalition_map.specs.Coalitions.{PlanNumbers, leaf_members}
use Rattle.coalition_map.specs.Members.{IsAscendingIn}
use Rattle.lms_bytes.specs.declared.ask.ReplyHead.{ReplyHead}
use Rattle.lms_bytes.specs.declared.message.MessageId.{MessageId}
use Rattle.lms_bytes.specs.declared.public_key.PublicKey.{PublicKey}
use Rattle.reference_value.specs.Dealing.{Dealing, random_mask}
use Rattle.round_frames.specs.Replies.{Reply}
use Rattle.session_core.specs.Replies.{with_delivery}
use Rattle.session_core.specs.Seats.{Seat, empty_seat, filled_seat, has_seat, is_filled, seat_of, with_reply}
use Rattle.session_core.specs.State.{State, body_room, started}
use Rattle.stream_io.specs.Net.{PortState}
use Rattle.stream_io.specs.Talk.{Talk}
use Rattle.laws_signing.specs.Answering.{AllGave, Answers, message_masks, second_round}
use Rattle.laws_signing.proofs.Hearing.{SameEar, Taken, asked-hears, asked-later, asked-taken, hear-same}
use Rattle.laws_signing.proofs.Seats.{Front, IsBelow, Kept, Waits, answered, front-later, front-more, number, numbers-more, waits}

-- a session in round one with these seats
abbrev pub one : PublicKey → PlanNumbers → ℕ → MessageId → List Seat → State
one key plan leaf id seats = record (started key plan leaf id) { first = seats }

ear-one : (key : PublicKey) (plan : PlanNumbers) (leaf : ℕ) (id : MessageId) (xs ys : List Seat) (t room : ℕ) → Waits xs t room → Waits ys t room
    → SameEar (one key plan leaf id xs) (one key plan leaf id ys) t
ear-one key plan leaf id xs ys t room a b = record {
  params = refl;
  round = refl;
  step = λ head body own.
      let has : has_seat xs head.member ≡ has_seat ys head.member = ap (has_seat xs) own ∙ (a.there ∙ (sym b.there ∙ sym (ap (has_seat ys) own))) in
      let filled : is_filled (seat_of xs head.member) ≡ is_filled (seat_of ys head.member) =
      ap (λ (m : ℕ). is_filled (seat_of xs m)) own ∙ (a.empty ∙ (sym b.empty ∙ sym (ap (λ (m : ℕ). is_filled (seat_of ys m)) own))) in
      rw (has, filled) refl;
}

-- the first seats of members that come before one, with nothing kept
empties-below : (room t : ℕ) (front : List Seat) → All (IsBelow t) front → All (IsBelow t) (map (empty_seat room) (map number front))
empties-below room t [] below = All-nil (IsBelow t)
empties-below room t (seat ∷ front) below =
    All-cons (IsBelow t) (empty_seat room seat.member) (map (empty_seat room) (map number front)) (All-head (IsBelow t) seat front below)
    (empties-below room t front (All-tail (IsBelow t) seat front below))

pub start-waits : (room t : ℕ) (front : List Seat) (rest all : List ℕ) → All (IsBelow t) front → map number front ++ t ∷ rest ≡ all → Waits (map (empty_seat room) all) t room
start-waits room t front rest all below is =
    subst (λ (l : List ℕ). Waits (map (empty_seat room) l) t room) is
    (subst (λ (l : List Seat). Waits l t room) (sym (map-append (empty_seat room) (map number front) (t ∷ rest)))
    (waits (map (empty_seat room) (map number front)) (map (empty_seat room) rest) t room (empties-below room t front below)))

deliver-one : (key : PublicKey) (plan : PlanNumbers) (leaf : ℕ) (id : MessageId) (front rest : List Seat) (t room : ℕ) (head : ReplyHead) (masks : List ℕ) → All (IsBelow t) front
    → head.code ≡ 0 → Taken (one key plan leaf id (front ++ empty_seat room t ∷ rest)) t (head, masks)
    → with_delivery (one key plan leaf id (front ++ empty_seat room t ∷ rest)) head masks ≡ one key plan leaf id ((front ++ filled_seat (empty_seat room t) 0 masks ∷ []) ++ rest)
deliver-one key plan leaf id front rest t room head masks below code taken =
    let seats : with_reply (front ++ empty_seat room t ∷ rest) head.member head.code masks ≡ (front ++ filled_seat (empty_seat room t) 0 masks ∷ []) ++ rest =
    ap (λ (m : ℕ). with_reply (front ++ empty_seat room t ∷ rest) m head.code masks) taken.own
    ∙ (ap (λ (c : ℕ). with_reply (front ++ empty_seat room t ∷ rest) t c masks) code ∙ answered front rest t room 0 masks below) in
    rw (taken.answers_it, taken.first) (ap (one key plan leaf id) seats)

-- a link that is ready for round two
pub record Ready (d : Dealing) (s : State) (message : List ℕ) (member : ℕ) (talk : Talk) : Type 0 where
  pub last : List ℕ
  pub told : IsTrue talk.told
  pub second : Answers (second_round d s) member talk.left (message_masks d s message member) last

module _ (d : Dealing) (key : PublicKey) (leaf : ℕ) (id : MessageId) (message : List ℕ) where
  abbrev start : State
  start = started key d.plan leaf id

  abbrev room_one : ℕ
  room_one = body_room key.params 1

  abbrev mask_one : ℕ → List ℕ
  mask_one = random_mask d leaf

  -- a member was dialled, and answered with its mask
  record Called (s : State) (members : List ℕ) (member : ℕ) (later talks : List Talk) (answer : Result Reply SignFault) (after : PortState) : Type 0 where
    head : ReplyHead
    granted : head.code ≡ 0
    answer_is : answer ≡ Ok (head, mask_one member)
    talk : Talk
    one_talk : talks ≡ talk ∷ []
    ready : Ready d start message member talk
    more : AllGave d start message members later
    told : IsTrue after.told
    taken : Taken s member (head, mask_one member)

  call-goes : (addresses : List Address) (ask : List ℕ) (s : State) (member : ℕ) (port after : PortState) (talks : List Talk) (answer : Result Reply SignFault) (members : List ℕ) (later : List Talk)
      → Calls addresses ask s member port after talks answer → (place_of addresses member ≡ None → ⊥) → (LostBy DialFailed answer → ⊥) → IsTrue port.told → SameEar s start member
      → AllGave d start message (member ∷ members) (talks ++ later) → Called s members member later talks answer after
  call-goes addresses ask s member port after talks answer members later (nowhere none) has dials told ear gave = absurd (has none)
  call-goes addresses ask s member port after talks answer members later (undialled place a at onward rose same nobody) has dials told ear gave = absurd (dials refl)
  call-goes addresses ask s member port after talks answer members later (dialled place begin talk steady a x at onward quiet made asks) has dials told ear gave =
      let own = gave.0 in
      let begin_told = made.link.told told in
      let kept = asked-later s member ask begin talk x asks in
      let bytes : begin.left ≡ talk.taken ++ talk.left = sym (kept.given begin_told ∙ ap (λ (l : List ℕ). l ++ begin.left) (made.link.taken told)) in
      let heard : hear s member 8 begin.left ≡ record { answer = Ok (own.first.head, mask_one member); rest = own.rest } =
      hear-same s start member 8 begin.left ear ∙ (ap (hear start member 8) bytes ∙ own.first.heard) in
      let came = asked-hears s member ask begin talk x (own.first.head, mask_one member) own.rest asks begin_told own.faultless heard in
      record {
        head = own.first.head;
        granted = own.first.granted;
        answer_is = came.answer_is;
        talk = talk;
        one_talk = refl;
        ready = record {
          last = own.last;
          told = kept.told ∙ begin_told;
          second = subst (λ (b : List ℕ). Answers (second_round d start) member b (message_masks d start message member) own.last) (sym came.left) own.second;
        };
        more = gave.1;
        told = onward.told ∙ told;
        taken = asked-taken s member ask begin talk x (own.first.head, mask_one member) asks came.answer_is;
      }

  -- the session after round one
  pub record Goes (all members : List ℕ) (talks : List Talk) (last : State) (end : Result (Unit {0}) SignFault) : Type 0 where
    pub end_is : end ≡ Ok tt
    pub seats : List Seat
    pub last_is : last ≡ one key d.plan leaf id seats
    pub kept : All (Kept room_one mask_one) seats
    pub numbers : map number seats ≡ all
    pub ready : AllZip (Ready d start message) members talks

  -- a member that has not answered is heard as at the start
  ear-of : (s : State) (front : List Seat) (member : ℕ) (rest : List ℕ) → s ≡ one key d.plan leaf id (front ++ map (empty_seat room_one) (member ∷ rest)) → All (IsBelow member) front
      → map number front ++ member ∷ rest ≡ leaf_members d.plan leaf → SameEar s start member
  ear-of s front member rest is below all =
      let members = leaf_members d.plan leaf in
      subst (λ (z : State). SameEar z start member) (sym is)
      (ear-one key d.plan leaf id (front ++ map (empty_seat room_one) (member ∷ rest)) (map (empty_seat room_one) members) member room_one
      (waits front (map (empty_seat room_one) rest) member room_one below) (start-waits room_one member front rest members below all))

  pub first-goes : (addresses : List Address) (ask : List ℕ) (port : PortState) (s : State) (members : List ℕ) (talks : List Talk) (last : State) (end : Result (Unit {0}) SignFault)
      → First addresses ask port s members talks last end → (front : List Seat) (a e : ℕ) → s ≡ one key d.plan leaf id (front ++ map (empty_seat room_one) members)
      → Front room_one mask_one a front → IsAscendingIn a e members → map number front ++ members ≡ leaf_members d.plan leaf
      → All (λ t. place_of addresses t ≡ None → ⊥) members → (LostBy DialFailed end → ⊥) → IsTrue port.told → AllGave d start message members talks
      → Goes (leaf_members d.plan leaf) members talks last end
  first-goes addresses ask port s members talks last end (first_all p x) front a e is f ascending all places dials told gave = record {
    end_is = refl;
    seats = front;
    last_is = is ∙ ap (one key d.plan leaf id) (append-nil front);
    kept = f.kept;
    numbers = sym (append-nil (map number front)) ∙ all;
    ready = tt;
  }
  first-goes addresses ask port s members talks last end (first_lost p after x member rest t why calls) front a e is f ascending all places dials told gave =
      let g = front-later room_one mask_one a member front ascending.0 f in
      let ear = ear-of x front member rest is g.below all in
      let here = All-head (λ (m : ℕ). place_of addresses m ≡ None → ⊥) member rest places in
      let c = call-goes addresses ask x member p after t (Err why) rest [] calls here dials told ear (subst (λ (l : List Talk). AllGave d start message (member ∷ rest) l) (sym (append-nil t)) gave) in
      let is_ok = c.answer_is in
      absurd (cc)
  first-goes addresses ask port s members talks last end (first_refused p after x member rest t reply calls refused) front a e is f ascending all places dials told gave =
      let g = front-later room_one mask_one a member front ascending.0 f in
      let ear = ear-of x front member rest is g.below all in
      let here = All-head (λ (m : ℕ). place_of addresses m ≡ None → ⊥) member rest places in
      let c = call-goes addresses ask x member p after t (Ok reply) rest [] calls here (λ lost. lost) told ear (subst (λ (l : List Talk). AllGave d start message (member ∷ rest) l) (sym (append-nil t)) gave) in
      let is_ok = c.answer_is in
      let same : reply ≡ (c.head, mask_one member) = cc in
      let granted : is_masks reply ≡ true = ap is_masks same ∙ ap (λ (n : ℕ). n == 0) c.granted in
      absurd (cc)
  first-goes addresses ask port s members talks last end (first_answered p after x y member rest t later reply o calls granted next) front a e is f ascending all places dials told gave =
      let g = front-later room_one mask_one a member front ascending.0 f in
      let ear = ear-of x front member rest is g.below all in
      let here = All-head (λ (m : ℕ). place_of addresses m ≡ None → ⊥) member rest places in
      let c = call-goes addresses ask x member p after t (Ok reply) rest later calls here (λ lost. lost) told ear gave in
      let is_ok = c.answer_is in
      let same : reply ≡ (c.head, mask_one member) = cc in
      let taken = subst (λ (z : State). Taken z member (c.head, mask_one member)) is c.taken in
      let seat = filled_seat (empty_seat room_one member) 0 (mask_one member) in
      let state : kept_in x (Ok reply) ≡ one key d.plan leaf id ((front ++ seat ∷ []) ++ map (empty_seat room_one) rest) =
      ap (λ (r : Reply). with_delivery x r.0 r.1) same ∙ (ap (λ (z : State). with_delivery z c.head (mask_one member)) is
      ∙ deliver-one key d.plan leaf id front (map (empty_seat room_one) rest) member room_one c.head (mask_one member) g.below c.granted taken) in
      let later_on = first-goes addresses ask after (kept_in x (Ok reply)) rest later y o next (front ++ seat ∷ []) (member + 1) e state (front-more room_one mask_one member front g) ascending.2
      (numbers-more front seat rest ∙ all) (All-tail (λ (m : ℕ). place_of addresses m ≡ None → ⊥) member rest places) dials c.told c.more in
      record {
        end_is = later_on.end_is;
        seats = later_on.seats;
        last_is = later_on.last_is;
        kept = later_on.kept;
        numbers = later_on.numbers;
        ready = subst (λ (l : List Talk). AllZip (Ready d start message) (member ∷ rest) (l ++ later)) (sym c.one_talk) (c.ready, later_on.ready);
      }
