-- A list of deliveries, taken one after the other.
use Rattle.std.proofs.Common.{◌≡◌, ℕ, suc, ◌+◌, ◌<◌, ◌≤◌, ◌==◌, Bool, true, false, List, [], ◌∷◌, None, map, refl, ap, arith, if◌then◌else◌}
use Rattle.std.proofs.lemmas.Bool.Decides.{nat_tests}
use Rattle.coalition_map.specs.Members.{IsAscendingIn}
use Rattle.session_core.specs.Deliveries.{Delivery, answered_seat, first_reply}
use Rattle.session_core.specs.Replies.{answers}
use Rattle.session_core.specs.State.{State}
use Rattle.session_core.specs.Seats.{Seat, filled_seat, is_filled, place_of, seat_of, with_reply}

-- what a reply of member t does to a seat
abbrev pub first_at : ℕ → ℕ → List ℕ → Seat → Seat
first_at t code body seat = if seat.member == t then (if is_filled seat then seat else filled_seat seat code body) else seat

-- what it does to all seats
abbrev pub kept_first : List Seat → ℕ → ℕ → List ℕ → List Seat
kept_first seats t code body = if is_filled (seat_of seats t) then seats else with_reply seats t code body

place-first : (seat : Seat) (seats : List Seat) (t : ℕ) → seat.member == t ≡ true → place_of (seat ∷ seats) t ≡ 0
unfolding place_of
place-first seat seats t test = rw test refl

place-next : (seat : Seat) (seats : List Seat) (t : ℕ) → seat.member == t ≡ false → place_of (seat ∷ seats) t ≡ suc (place_of seats t)
unfolding place_of
place-next seat seats t test = rw test refl

-- no member here is t
untouched : (seats : List Seat) (a e t code : ℕ) (body : List ℕ) → IsAscendingIn a e (map (λ (seat : Seat). seat.member) seats) → t < a
    → map (first_at t code body) seats ≡ seats
untouched [] a e t code body ascending below = refl
untouched (seat ∷ seats) a e t code body ascending below =
    let from : a ≤ seat.member = ascending.0 in
    let test : seat.member == t ≡ false = grind (arith, nat_tests) in
    rw (test, untouched seats (seat.member + 1) e t code body ascending.2 (omega arith)) refl

first-here : (seat : Seat) (seats : List Seat) (t code : ℕ) (body : List ℕ) (filled : Bool) → is_filled seat ≡ filled
    → (if filled then seat ∷ seats else filled_seat seat code body ∷ seats) ≡ (if filled then seat else filled_seat seat code body) ∷ seats
first-here seat seats t code body true is = refl
first-here seat seats t code body false is = refl

first-later : (seat : Seat) (seats : List Seat) (t code : ℕ) (body : List ℕ) (filled : Bool)
    → (if filled then seat ∷ seats else seat ∷ with_reply seats t code body) ≡ seat ∷ (if filled then seats else with_reply seats t code body)
first-later seat seats t code body true = refl
first-later seat seats t code body false = refl

by-member : (seat : Seat) (seats : List Seat) (a e t code : ℕ) (body : List ℕ) (test : Bool) → seat.member == t ≡ test
    → IsAscendingIn a e (map (λ (seat : Seat). seat.member) (seat ∷ seats))
    → kept_first seats t code body ≡ map (first_at t code body) seats
    → kept_first (seat ∷ seats) t code body ≡ map (first_at t code body) (seat ∷ seats)
by-member seat seats a e t code body true is ascending rest =
    let same : seat.member ≡ t = grind (arith, nat_tests) in
    let none = untouched seats (seat.member + 1) e t code body ascending.2 (omega arith) in
    rw (place-first seat seats t is, is, none) (first-here seat seats t code body (is_filled seat) refl)
by-member seat seats a e t code body false is ascending rest =
    rw (place-next seat seats t is, is, ← rest) (first-later seat seats t code body (is_filled (seat_of seats t)))

-- one reply fills one seat
pub kept-first-map : (seats : List Seat) (a e t code : ℕ) (body : List ℕ) → IsAscendingIn a e (map (λ (seat : Seat). seat.member) seats)
    → kept_first seats t code body ≡ map (first_at t code body) seats
kept-first-map [] a e t code body ascending = refl
kept-first-map (seat ∷ seats) a e t code body ascending =
    by-member seat seats a e t code body (seat.member == t) refl ascending (kept-first-map seats (seat.member + 1) e t code body ascending.2)

-- what a delivery does to a seat, by whether it answers
pub step_if : Bool → Delivery → Seat → Seat
step_if true d seat = first_at d.head.member d.head.code d.body seat
step_if false d seat = seat

-- what deliveries do to a seat, by which of them answer
pub after : (Delivery → Bool) → List Delivery → Seat → Seat
after answering [] seat = seat
after answering (d ∷ ds) seat = after answering ds (step_if (answering d) d seat)

after-same : (a b : Delivery → Bool) (ds : List Delivery) (seat : Seat) → ((d : Delivery) → a d ≡ b d) → after a ds seat ≡ after b ds seat
unfolding after
after-same a b [] seat same = refl
after-same a b (d ∷ ds) seat same = rw (same d) (after-same a b ds (step_if (b d) d seat) same)

pub after-each : (a b : Delivery → Bool) (ds : List Delivery) (seats : List Seat) → ((d : Delivery) → a d ≡ b d) → map (after a ds) seats ≡ map (after b ds) seats
after-each a b ds [] same = refl
after-each a b ds (seat ∷ seats) same = rw (after-same a b ds seat same, after-each a b ds seats same) refl

pub after-step : (answering : Delivery → Bool) (d : Delivery) (ds : List Delivery) (seats : List Seat)
    → map (after answering ds) (map (step_if (answering d) d) seats) ≡ map (after answering (d ∷ ds)) seats
unfolding after
after-step answering d ds [] = refl
after-step answering d ds (seat ∷ seats) = ap (λ (l : List Seat). after answering ds (step_if (answering d) d seat) ∷ l) (after-step answering d ds seats)

pub after-none : (answering : Delivery → Bool) (seats : List Seat) → map (after answering []) seats ≡ seats
unfolding after
after-none answering [] = refl
after-none answering (seat ∷ seats) = ap (λ (l : List Seat). seat ∷ l) (after-none answering seats)

pub step-first : (d : Delivery) (seats : List Seat) → map (first_at d.head.member d.head.code d.body) seats ≡ map (step_if true d) seats
unfolding step_if
step-first d [] = refl
step-first d (seat ∷ seats) = ap (λ (l : List Seat). first_at d.head.member d.head.code d.body seat ∷ l) (step-first d seats)

-- a delivery leaves the members as they were
first-member : (t code : ℕ) (body : List ℕ) (seat : Seat) (test filled : Bool)
    → (if test then (if filled then seat else filled_seat seat code body) else seat).member ≡ seat.member
first-member t code body seat true true = refl
first-member t code body seat true false = refl
first-member t code body seat false filled = refl

step-member : (b : Bool) (d : Delivery) (seat : Seat) → (step_if b d seat).member ≡ seat.member
unfolding step_if
step-member true d seat = first-member d.head.member d.head.code d.body seat (seat.member == d.head.member) (is_filled seat)
step-member false d seat = refl

pub step-members : (b : Bool) (d : Delivery) (seats : List Seat) → map (λ (seat : Seat). seat.member) (map (step_if b d) seats) ≡ map (λ (seat : Seat). seat.member) seats
step-members b d [] = refl
step-members b d (seat ∷ seats) = rw (step-member b d seat, step-members b d seats) refl

-- a seat that is filled stays as it is
step-filled : (d : Delivery) (seat : Seat) (b test : Bool) → is_filled seat ≡ true → seat.member == d.head.member ≡ test → step_if b d seat ≡ seat
unfolding step_if
step-filled d seat true true filled is = rw (is, filled) refl
step-filled d seat true false filled is = rw is refl
step-filled d seat false test filled is = refl

after-filled : (answering : Delivery → Bool) (ds : List Delivery) (seat : Seat) → is_filled seat ≡ true → after answering ds seat ≡ seat
unfolding after
after-filled answering [] seat filled = refl
after-filled answering (d ∷ ds) seat filled =
    rw (step-filled d seat (answering d) (seat.member == d.head.member) filled refl) (after-filled answering ds seat filled)

-- an empty seat keeps the first reply that answers
step-empty : (d : Delivery) (seat : Seat) → seat.code ≡ None → seat.member == d.head.member ≡ true → step_if true d seat ≡ filled_seat seat d.head.code d.body
unfolding step_if
step-empty d seat none is =
    let empty : is_filled seat ≡ false = rw none refl in
    rw (is, empty) refl

step-other : (d : Delivery) (seat : Seat) (b : Bool) → seat.member == d.head.member ≡ false → step_if b d seat ≡ seat
unfolding step_if
step-other d seat true is = rw is refl
step-other d seat false is = refl

pub step-not : (d : Delivery) (seat : Seat) → step_if false d seat ≡ seat
unfolding step_if
step-not d seat = refl

after-empty-case : (s : State) (d : Delivery) (ds : List Delivery) (seat : Seat) (b test : Bool) → seat.code ≡ None → answers s d.head d.body ≡ b
    → seat.member == d.head.member ≡ test
    → after (λ d. answers s d.head d.body) ds seat ≡ answered_seat seat (first_reply s seat.member ds)
    → after (λ d. answers s d.head d.body) (d ∷ ds) seat ≡ answered_seat seat (first_reply s seat.member (d ∷ ds))
unfolding after first_reply
after-empty-case s d ds seat true true none ans is rest =
    rw (ans, is, step-empty d seat none is) (after-filled (λ d. answers s d.head d.body) ds (filled_seat seat d.head.code d.body) refl)
after-empty-case s d ds seat true false none ans is rest = rw (ans, is, step-other d seat true is) rest
after-empty-case s d ds seat false true none ans is rest = rw (ans, is, step-not d seat) rest
after-empty-case s d ds seat false false none ans is rest = rw (ans, is, step-not d seat) rest

after-nothing : (s : State) (seat : Seat) → after (λ d. answers s d.head d.body) [] seat ≡ answered_seat seat (first_reply s seat.member [])
unfolding after first_reply
after-nothing s seat = refl

pub after-empty : (s : State) (ds : List Delivery) (seat : Seat) → seat.code ≡ None
    → after (λ d. answers s d.head d.body) ds seat ≡ answered_seat seat (first_reply s seat.member ds)
after-empty s [] seat none = after-nothing s seat
after-empty s (d ∷ ds) seat none =
    after-empty-case s d ds seat (answers s d.head d.body) (seat.member == d.head.member) none refl refl (after-empty s ds seat none)
