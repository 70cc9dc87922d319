-- Seats of a round in which the members before one have answered, and that one and those after it have not.
use Rattle.std.proofs.Common.{◌≡◌, ℕ, suc, ◌+◌, ◌<◌, ◌≤◌, nat_lt, true, false, List, [], ◌∷◌, ◌++◌, All, Option, None, Some, length, map, get_or, set, refl, sym, ap, ◌∙◌, arith, append_assoc, length-append}
use Rattle.std.proofs.Math.Seq.{get_or-append_seam, set-append_seam}
use Rattle.std.proofs.lemmas.Bool.Decides.{nat_tests}
use Rattle.std.proofs.lemmas.List.Elements.{All-append, All-cons, All-head, All-nil, All-tail, All-weaker}
use Rattle.lms_bytes.specs.declared.params.Params.{Params}
use Rattle.session_core.specs.Judging.{first_fault, seat_fault}
use Rattle.session_core.specs.Seats.{Seat, empty_seat, filled_seat, has_seat, is_filled, place_of, seat_of, with_reply}
use Rattle.session_core.specs.State.{AreSeats, IsSeat, State, body_length, body_room}
use Rattle.session_core.specs.declared.faults.SessionFault.{SessionFault}
use Rattle.session_core.proofs.Places.{place-here, place-later}

abbrev pub number : Seat → ℕ
number seat = seat.member

abbrev pub IsBelow : ℕ → Seat → Type 0
IsBelow t seat = seat.member < t

pub place-is : (front : List Seat) (x : Seat) (rest : List Seat) (t : ℕ) → All (IsBelow t) front → x.member ≡ t → place_of (front ++ x ∷ rest) t ≡ length front
place-is [] x rest t below same = place-here x rest t same
place-is (seat ∷ front) x rest t below same =
    let head : seat.member < t = All-head (IsBelow t) seat front below in
    place-later seat (front ++ x ∷ rest) t (λ is. absurd (omega arith)) ∙ ap suc (place-is front x rest t (All-tail (IsBelow t) seat front below) same)

-- the seat of a member that has not answered
pub record Waits (seats : List Seat) (t room : ℕ) : Type 0 where
  pub there : has_seat seats t ≡ true
  pub empty : is_filled (seat_of seats t) ≡ false
  pub seat : seat_of seats t ≡ empty_seat room t

pub waits : (front rest : List Seat) (t room : ℕ) → All (IsBelow t) front → Waits (front ++ empty_seat room t ∷ rest) t room
waits front rest t room below =
    let seats = front ++ empty_seat room t ∷ rest in
    let place : place_of seats t ≡ length front = place-is front (empty_seat room t) rest t below refl in
    let size : length seats ≡ length front + suc (length rest) = length-append front (empty_seat room t ∷ rest) in
    let inside : nat_lt (place_of seats t) (length seats) ≡ true = grind (arith, nat_tests) in
    let here : seat_of seats t ≡ empty_seat room t = ap (λ (i : ℕ). get_or seats i (empty_seat 0 0)) place ∙ get_or-append_seam front (empty_seat room t) rest (empty_seat 0 0) in
    record {
      there = inside;
      empty = ap is_filled here;
      seat = here;
    }

-- its seat once it has
pub answered : (front rest : List Seat) (t room code : ℕ) (body : List ℕ) → All (IsBelow t) front
    → with_reply (front ++ empty_seat room t ∷ rest) t code body ≡ (front ++ filled_seat (empty_seat room t) code body ∷ []) ++ rest
answered front rest t room code body below =
    let seats = front ++ empty_seat room t ∷ rest in
    let place : place_of seats t ≡ length front = place-is front (empty_seat room t) rest t below refl in
    let here = (waits front rest t room below).seat in
    ap (λ (i : ℕ). set seats i (filled_seat (seat_of seats t) code body)) place
    ∙ (set-append_seam front (empty_seat room t) rest (filled_seat (seat_of seats t) code body)
    ∙ (ap (λ (x : Seat). front ++ filled_seat x code body ∷ rest) here ∙ sym (append_assoc front (filled_seat (empty_seat room t) code body ∷ []) rest)))

-- a seat keeps its member's masks
pub record Kept (room : ℕ) (mask : ℕ → List ℕ) (seat : Seat) : Type 0 where
  pub room_is : seat.room ≡ room
  pub code : seat.code ≡ Some 0
  pub body : seat.body ≡ mask seat.member

-- the members that have answered, before this one
pub record Front (room : ℕ) (mask : ℕ → List ℕ) (t : ℕ) (front : List Seat) : Type 0 where
  pub kept : All (Kept room mask) front
  pub below : All (IsBelow t) front

pub front-none : (room : ℕ) (mask : ℕ → List ℕ) (t : ℕ) → Front room mask t []
front-none room mask t = record { kept = All-nil (Kept room mask); below = All-nil (IsBelow t) }

pub front-later : (room : ℕ) (mask : ℕ → List ℕ) (t u : ℕ) (front : List Seat) → t ≤ u → Front room mask t front → Front room mask u front
front-later room mask t u front le f = record {
  kept = f.kept;
  below = All-weaker (IsBelow t) (IsBelow u) (λ seat lt. omega arith) front f.below;
}

pub front-more : (room : ℕ) (mask : ℕ → List ℕ) (t : ℕ) (front : List Seat) → Front room mask t front
    → Front room mask (t + 1) (front ++ filled_seat (empty_seat room t) 0 (mask t) ∷ [])
front-more room mask t front f =
    let seat = filled_seat (empty_seat room t) 0 (mask t) in
    let own : Kept room mask seat = record { room_is = refl; code = refl; body = refl } in
    let last : IsBelow (t + 1) seat = omega arith in
    record {
      kept = All-append (Kept room mask) front (seat ∷ []) f.kept (All-cons (Kept room mask) seat [] own (All-nil (Kept room mask)));
      below =
          All-append (IsBelow (t + 1)) front (seat ∷ []) (All-weaker (IsBelow t) (IsBelow (t + 1)) (λ x lt. omega arith) front f.below)
          (All-cons (IsBelow (t + 1)) seat [] last (All-nil (IsBelow (t + 1))));
    }

numbers-append : (xs ys : List Seat) → map number (xs ++ ys) ≡ map number xs ++ map number ys
numbers-append [] ys = refl
numbers-append (x ∷ xs) ys = ap (λ (l : List ℕ). x.member ∷ l) (numbers-append xs ys)

pub numbers-more : (front : List Seat) (seat : Seat) (members : List ℕ) → map number (front ++ seat ∷ []) ++ members ≡ map number front ++ seat.member ∷ members
numbers-more front seat members =
    ap (λ (l : List ℕ). l ++ members) (numbers-append front (seat ∷ [])) ∙ append_assoc (map number front) (seat.member ∷ []) members

-- all seats of a round that keep their members' masks
pub kept-seats : (params : Params) (round room : ℕ) (mask : ℕ → List ℕ) (members : List ℕ) (seats : List Seat) → body_room params round ≤ room
    → ((t : ℕ) → length (mask t) ≡ body_length params round 0) → map number seats ≡ members → All (Kept room mask) seats → AreSeats params members round seats
kept-seats params round room mask members seats large size theirs kept = record {
  theirs = theirs;
  each = All-weaker (Kept room mask) (IsSeat params round) (λ seat k.
      let code = k.code in
      let body : length seat.body ≡ body_length params round 0 = ap length k.body ∙ size seat.member in
      let own = k.room_is in
      record { room = omega arith; body = rw code body }) seats kept;
}

first-none : first_fault [] ≡ None
unfolding first_fault
first-none = refl

first-masks : (s : State) (digest : List ℕ) (seat : Seat) (rest : List (Option SessionFault)) → seat.code ≡ Some 0 → first_fault (seat_fault s digest seat ∷ rest) ≡ first_fault rest
unfolding first_fault
first-masks s digest seat rest is = rw is refl

-- nothing is wrong with them
pub kept-faultless : (s : State) (digest : List ℕ) (room : ℕ) (mask : ℕ → List ℕ) (seats : List Seat) → All (Kept room mask) seats → first_fault (map (seat_fault s digest) seats) ≡ None
kept-faultless s digest room mask [] all = first-none
kept-faultless s digest room mask (seat ∷ seats) all =
    first-masks s digest seat (map (seat_fault s digest) seats) (All-head (Kept room mask) seat seats all).code
    ∙ kept-faultless s digest room mask seats (All-tail (Kept room mask) seat seats all)
