-- What a session keeps of the members of a coalition in one round.
use Rattle.std.specs.Prelude.{ℕ, suc, ◌==◌, nat_lt, Bool, true, false, List, []}
use Rattle.std.specs.Prelude.{◌∷◌, length, Option, Some, None, slice_index_or, slice_set, if◌then◌else◌}

-- a member, and the first of its replies
pub record Seat : Type 0 where
  pub member : ℕ
  -- the most bytes that a body may have
  pub room : ℕ
  -- the code of the reply, or none while there is no reply
  pub code : Option ℕ
  -- the body of the reply, empty while there is no reply
  pub body : List ℕ

-- the seat of a member for whom nothing is kept
abbrev pub empty_seat : ℕ → ℕ → Seat
empty_seat room member = record { member = member; room = room; code = None; body = [] }

-- the seat once it keeps a reply
abbrev pub filled_seat : Seat → ℕ → List ℕ → Seat
filled_seat seat code body = record { member = seat.member; room = seat.room; code = Some code; body = body }

abbrev pub is_filled : Seat → Bool
is_filled seat = elim seat.code [ None ↦ false | Some code ↦ true ]

-- the place of member t, or the number of the seats if it has none
unfoldable pub place_of : List Seat → ℕ → ℕ
place_of [] t = 0
place_of (seat ∷ seats) t = if seat.member == t then 0 else suc (place_of seats t)

abbrev pub has_seat : List Seat → ℕ → Bool
has_seat seats t = nat_lt (place_of seats t) (length seats)

abbrev pub seat_of : List Seat → ℕ → Seat
seat_of seats t = slice_index_or seats (place_of seats t) (empty_seat 0 0)

-- the seats with a reply from member t
abbrev pub with_reply : List Seat → ℕ → ℕ → List ℕ → List Seat
with_reply seats t code body = slice_set seats (place_of seats t) (filled_seat (seat_of seats t) code body)
