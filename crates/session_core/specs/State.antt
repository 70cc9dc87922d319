-- The state of a session.
use Rattle.std.specs.Prelude.{◌≡◌, ℕ, ◌+◌, ◌*◌, ◌^◌, ◌<◌, ◌≤◌, ◌==◌, List}
use Rattle.std.specs.Prelude.{length, map, replicate, All, Option, Some, None, IfSome, if◌then◌else◌}
use Rattle.coalition_map.specs.Coalitions.{PlanNumbers, leaf_members}
use Rattle.coalition_map.specs.Members.{IsAscendingIn}
use Rattle.lms_bytes.specs.declared.message.MessageId.{MessageId}
use Rattle.lms_bytes.specs.declared.params.Params.{Params}
use Rattle.lms_bytes.specs.declared.public_key.PublicKey.{PublicKey}
use Rattle.session_core.specs.Seats.{Seat, empty_seat}

pub record State : Type 0 where
  pub key : PublicKey
  pub plan : PlanNumbers
  pub leaf : ℕ
  pub message : MessageId
  -- the randomizer C once it is joined: from then on the session is in round two
  pub c : Option (List ℕ)
  -- a seat for each member of the leaf's coalition, in ascending order, for each round
  pub first : List Seat
  pub second : List Seat

abbrev pub round_of : State → ℕ
round_of s = elim s.c [ None ↦ 1 | Some c ↦ 2 ]

-- the seats of the present round
abbrev pub seats_of : State → List Seat
seats_of s = elim s.c [ None ↦ s.first | Some c ↦ s.second ]

-- the randomizer in the asks of the present round
abbrev pub asked_c : State → List ℕ
asked_c s = elim s.c [ None ↦ replicate s.key.params.n 0 | Some c ↦ c ]

abbrev pub with_seats : State → List Seat → State
with_seats s seats = elim s.c [
  | None ↦ record s { first = seats }
  | Some c ↦ record s { second = seats }
]

-- what no reply changes
pub record SameAsk (old new : State) : Type 0 where
  pub key : new.key ≡ old.key
  pub plan : new.plan ≡ old.plan
  pub leaf : new.leaf ≡ old.leaf
  pub message : new.message ≡ old.message
  pub c : new.c ≡ old.c

-- the session in round two
abbrev pub turned : State → List ℕ → State
turned s c = record s { c = Some c }

-- this project's profile: the bytes of a round's masks: those of the randomizer in round one, those of all chains in
-- round two
abbrev pub masks_length : Params → ℕ → ℕ
masks_length params round = if round == 1 then params.n else params.n * params.p

-- this project's profile: the bytes of a body: masks under code 0, the two gates under 7, the kept message under 9, the
-- kept randomizer and digest under 10, and nothing under any other code
abbrev pub body_length : Params → ℕ → ℕ → ℕ
body_length params round code =
    if code == 0 then masks_length params round else
    if code == 7 then 2 else
    if code == 9 then 36 else
    if code == 10 then 2 * params.n else 0

-- room for every body of a round
abbrev pub body_room : Params → ℕ → ℕ
body_room params round = masks_length params round + 64

-- how a session begins
abbrev pub started : PublicKey → PlanNumbers → ℕ → MessageId → State
started key plan leaf message = record {
  key = key;
  plan = plan;
  leaf = leaf;
  message = message;
  c = None;
  first = map (empty_seat (body_room key.params 1)) (leaf_members plan leaf);
  second = map (empty_seat (body_room key.params 2)) (leaf_members plan leaf);
}

-- a seat of a round: what it keeps has the length of its code
pub record IsSeat (params : Params) (round : ℕ) (seat : Seat) : Type 0 where
  pub room : body_room params round ≤ seat.room
  pub body : IfSome seat.code (λ code. length seat.body ≡ body_length params round code)

-- the seats of a round are those of the coalition
pub record AreSeats (params : Params) (members : List ℕ) (round : ℕ) (seats : List Seat) : Type 0 where
  pub theirs : map (λ (seat : Seat). seat.member) seats ≡ members
  pub each : All (IsSeat params round) seats

-- nothing is kept
abbrev pub AreEmpty : List Seat → Type 0
AreEmpty seats = All (λ (seat : Seat). seat.code ≡ None) seats

-- what is true of every session
pub record IsSession (s : State) : Type 0 where
  pub height : s.plan.h ≡ s.key.params.h
  pub leaf : s.leaf < 2 ^ s.key.params.h
  pub ascending : IsAscendingIn 1 (s.plan.n + 1) (leaf_members s.plan s.leaf)
  pub first : AreSeats s.key.params (leaf_members s.plan s.leaf) 1 s.first
  pub second : AreSeats s.key.params (leaf_members s.plan s.leaf) 2 s.second
  pub waiting : s.c ≡ None → AreEmpty s.second
  pub c : IfSome s.c (λ c. length c ≡ s.key.params.n)
