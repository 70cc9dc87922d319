-- The seats of a round once a reply is taken.
use Rattle.std.proofs.Common.{◌≡◌, ℕ, zero, suc, ◌*◌, ◌+◌, ◌<◌, ◌≤◌, Bool, true, false, ◌==◌, List, [], ◌∷◌, None, Some, length, map, set, get_or, refl, ◌∙◌, ap, arith, inl, inr, if◌then◌else◌}
use Rattle.std.proofs.lemmas.List.Elements.{All-set}
use Rattle.lms_bytes.specs.HashLength.{IsHashLength}
use Rattle.lms_bytes.specs.declared.params.Params.{Params}
use Rattle.lms_bytes.specs.declared.ask.ReplyHead.{ReplyHead}
use Rattle.session_core.specs.Replies.{IsWhole}
use Rattle.session_core.specs.Seats.{Seat, empty_seat, filled_seat, place_of, seat_of, with_reply}
use Rattle.session_core.specs.State.{AreSeats, IsSeat, State, body_length, body_room, masks_length, round_of, seats_of}

pub first-round : (s : State) → s.c ≡ None → seats_of s ≡ s.first
first-round s none = rw none refl

pub second-round : (s : State) (c : List ℕ) → s.c ≡ Some c → seats_of s ≡ s.second
second-round s c some = rw some refl

pub round-one : (s : State) → s.c ≡ None → round_of s ≡ 1
round-one s none = rw none refl

pub round-two : (s : State) (c : List ℕ) → s.c ≡ Some c → round_of s ≡ 2
round-two s c some = rw some refl

if-le : (b : Bool) (x y z : ℕ) → x ≤ z → y ≤ z → (if b then x else y) ≤ z
if-le true x y z h k = h
if-le false x y z h k = k

two-values : (n : ℕ) → IsHashLength n → 2 * n ≤ 64
two-values n (inl e) = omega arith
two-values n (inr e) = omega arith

body-fits : (params : Params) (round code : ℕ) → body_length params round code ≤ body_room params round
body-fits params round code =
    let masks = masks_length params round in
    let kept = two-values params.n params.hash_length in
    if-le (code == 0) masks _ (masks + 64) (omega arith)
    (if-le (code == 7) 2 _ (masks + 64) (omega arith) (if-le (code == 9) 36 _ (masks + 64) (omega arith) (if-le (code == 10) (2 * params.n) 0 (masks + 64) (omega arith) (omega arith))))

seat-at : (params : Params) (members : List ℕ) (round : ℕ) (seats : List Seat) (t : ℕ) → AreSeats params members round seats
    → place_of seats t < length seats → IsSeat params round (seat_of seats t)
seat-at params members round seats t are inside = are.each (place_of seats t) (empty_seat 0 0) inside

pub room-enough : (params : Params) (members : List ℕ) (round : ℕ) (seats : List Seat) (t code len : ℕ) → AreSeats params members round seats
    → place_of seats t < length seats → len ≡ body_length params round code → len ≤ (seat_of seats t).room
room-enough params members round seats t code len are inside is =
    let room = (seat-at params members round seats t are inside).room in
    let fits = body-fits params round code in
    omega arith

members-set : (seats : List Seat) (i : ℕ) (v d : Seat) → v.member ≡ (get_or seats i d).member
    → map (λ (seat : Seat). seat.member) (set seats i v) ≡ map (λ (seat : Seat). seat.member) seats
members-set [] i v d same = refl
members-set (seat ∷ seats) zero v d same = ap (λ (m : ℕ). m ∷ map (λ (seat : Seat). seat.member) seats) same
members-set (seat ∷ seats) (suc i) v d same = ap (λ (l : List ℕ). seat.member ∷ l) (members-set seats i v d same)

pub kept-seats : (params : Params) (members : List ℕ) (round : ℕ) (seats new : List Seat) (t code : ℕ) (body : List ℕ) (test : Bool)
    → AreSeats params members round seats → place_of seats t < length seats → length body ≡ body_length params round code
    → new ≡ (if test then seats else with_reply seats t code body) → AreSeats params members round new
kept-seats params members round seats new t code body true are inside size is = rw is are
kept-seats params members round seats new t code body false are inside size is =
    let at = seat-at params members round seats t are inside in
    rw is (record {
      theirs = members-set seats (place_of seats t) (filled_seat (seat_of seats t) code body) (empty_seat 0 0) refl ∙ are.theirs;
      each = All-set (IsSeat params round) seats (place_of seats t) (filled_seat (seat_of seats t) code body) (record { room = at.room; body = size }) are.each;
    })

-- what a whole reply says about its own round's seats
pub first-whole : (s : State) (head : ReplyHead) (body : List ℕ) → s.c ≡ None → IsWhole s head body
    → (place_of s.first head.member < length s.first) × (length body ≡ body_length s.key.params 1 head.code)
first-whole s head body none whole = (rw (first-round s none) at whole.member, rw (round-one s none) at whole.size)

pub second-whole : (s : State) (head : ReplyHead) (body c : List ℕ) → s.c ≡ Some c → IsWhole s head body
    → (place_of s.second head.member < length s.second) × (length body ≡ body_length s.key.params 2 head.code)
second-whole s head body c some whole = (rw (second-round s c some) at whole.member, rw (round-two s c some) at whole.size)
