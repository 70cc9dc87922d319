-- What is wrong with a round over a list of deliveries.
use Rattle.std.proofs.Common.{◌≡◌, ℕ, List, [], ◌∷◌, Option, None, Some, map, refl, ◌∙◌, ap}
use Rattle.std.proofs.lemmas.List.Elements.{All-head, All-tail}
use Rattle.coalition_map.specs.Coalitions.{leaf_members}
use Rattle.session_core.specs.Deliveries.{Delivery, answered_seat, deliveries_fault, delivered, first_masks, first_reply, reply_body, reply_fault}
use Rattle.session_core.specs.Judging.{first_fault, round_fault, seat_fault}
use Rattle.session_core.specs.Seats.{Seat}
use Rattle.session_core.specs.State.{AreEmpty, IsSession, SameAsk, State, seats_of}
use Rattle.session_core.specs.Verdicts.{bodies_of}
use Rattle.session_core.specs.declared.faults.SessionFault.{SessionFault}
use Rattle.session_core.proofs.Delivered.{delivered-ask, delivered-seats, numbers}
use Rattle.session_core.proofs.Judged.{first-cons}

-- the seats with their members' first replies
abbrev replied : State → List Delivery → List Seat → List Seat
replied s ds seats = map (λ (seat : Seat). answered_seat seat (first_reply s seat.member ds)) seats

-- what the first replies of members say
abbrev judged : State → List ℕ → List Delivery → List ℕ → List (Option SessionFault)
judged s digest ds members = map (λ t. reply_fault s digest t (first_reply s t ds)) members

numbers-of : (s : State) (o : Option (List ℕ)) → s.c ≡ o → IsSession s → numbers (seats_of s) ≡ leaf_members s.plan s.leaf
numbers-of s None is session = rw is session.first.theirs
numbers-of s (Some c) is session = rw is session.second.theirs

-- what a seat says depends on the ask alone
fault-same : (s new : State) (digest : List ℕ) (seat : Seat) → SameAsk s new → seat_fault new digest seat ≡ seat_fault s digest seat
fault-same s new digest seat a = rw (a.key, a.leaf, a.message, a.c) refl

fault-of-reply : (s : State) (digest : List ℕ) (seat : Seat) (o : Option Delivery) → seat.code ≡ None
    → seat_fault s digest (answered_seat seat o) ≡ reply_fault s digest seat.member o
fault-of-reply s digest seat None none = rw none refl
fault-of-reply s digest seat (Some d) none = refl

faults-of-replies : (s new : State) (digest : List ℕ) (ds : List Delivery) (seats : List Seat) → SameAsk s new → AreEmpty seats
    → map (seat_fault new digest) (replied s ds seats) ≡ judged s digest ds (numbers seats)
faults-of-replies s new digest ds [] a empty = refl
faults-of-replies s new digest ds (seat ∷ seats) a empty =
    let none : seat.code ≡ None = All-head (λ (seat : Seat). seat.code ≡ None) seat seats empty in
    let rest = faults-of-replies s new digest ds seats a (All-tail (λ (seat : Seat). seat.code ≡ None) seat seats empty) in
    let o = first_reply s seat.member ds in
    rw (fault-same s new digest (answered_seat seat o) a, fault-of-reply s digest seat o none, rest) refl

-- what is wrong with the seats that the deliveries leave
pub delivered-fault : (s : State) (digest : List ℕ) (ds : List Delivery) → IsSession s → AreEmpty (seats_of s)
    → round_fault (delivered s ds) digest ≡ deliveries_fault s digest ds
delivered-fault s digest ds session empty =
    let new = delivered s ds in
    let kept = delivered-seats s ds session empty in
    let each = faults-of-replies s new digest ds (seats_of s) (delivered-ask s ds) empty in
    ap (λ (l : List Seat). first_fault (map (seat_fault new digest) l)) kept
    ∙ (ap first_fault each ∙ ap (λ (l : List ℕ). first_fault (judged s digest ds l)) (numbers-of s s.c refl session))

body-of-reply : (s : State) (digest : List ℕ) (seat : Seat) (o : Option Delivery) → reply_fault s digest seat.member o ≡ None
    → (answered_seat seat o).body ≡ reply_body o
body-of-reply s digest seat None e = absurd (cc)
body-of-reply s digest seat (Some d) e = refl

bodies-of-replies : (s : State) (digest : List ℕ) (ds : List Delivery) (seats : List Seat)
    → first_fault (judged s digest ds (numbers seats)) ≡ None
    → bodies_of (replied s ds seats) ≡ map (λ t. reply_body (first_reply s t ds)) (numbers seats)
bodies-of-replies s digest ds [] e = refl
bodies-of-replies s digest ds (seat ∷ seats) e =
    let o = first_reply s seat.member ds in
    let both = first-cons (judged s digest ds (numbers seats)) (reply_fault s digest seat.member o) e in
    rw (body-of-reply s digest seat o both.0, bodies-of-replies s digest ds seats both.1) refl

-- if there is no fault, the seats keep the first masks
pub delivered-masks : (s : State) (digest : List ℕ) (ds : List Delivery) → IsSession s → AreEmpty (seats_of s)
    → deliveries_fault s digest ds ≡ None → bodies_of (seats_of (delivered s ds)) ≡ first_masks s ds
delivered-masks s digest ds session empty none =
    let members = numbers-of s s.c refl session in
    let judged-none : first_fault (judged s digest ds (numbers (seats_of s))) ≡ None = rw members none in
    ap bodies_of (delivered-seats s ds session empty)
    ∙ (bodies-of-replies s digest ds (seats_of s) judged-none
    ∙ ap (λ (l : List ℕ). map (λ t. reply_body (first_reply s t ds)) l) members)
