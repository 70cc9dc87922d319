-- What a session asks, and what it tells about what it keeps.
use Rattle.std.specs.Prelude.{◌≡◌, ℕ, ◌==◌, List, [], Option, Some, None, if◌then◌else◌}
use Rattle.lms_bytes.specs.declared.ask.Ask.{Ask}
use Rattle.session_core.specs.Seats.{Seat, seat_of}
use Rattle.session_core.specs.State.{State}

-- the ask of the present round: in round two with the randomizer, a member's tag, and the digest
abbrev pub ask_with : State → List ℕ → List ℕ → Ask
ask_with s tag digest = record {
  key = s.key.id;
  leaf = s.leaf;
  message = s.message;
  second = elim s.c [
    | None ↦ None
    | Some c ↦ Some (record { c = c; tag = tag; digest = digest })
  ];
}

-- the ask, whatever the tag
pub record IsAskOf (s : State) (digest : List ℕ) (ask : Ask) : Type 0 where
  pub tag : List ℕ
  pub same : ask ≡ ask_with s tag digest

abbrev pub seats_in : State → ℕ → List Seat
seats_in s round = if round == 1 then s.first else if round == 2 then s.second else []

-- the masks that a seat keeps
abbrev pub masks_at : Seat → Option (List ℕ)
masks_at seat = elim seat.code [
  | None ↦ None
  | Some code ↦ if code == 0 then Some seat.body else None
]

-- the masks that are kept for a member in a round
abbrev pub kept_masks : State → ℕ → ℕ → Option (List ℕ)
kept_masks s round member = masks_at (seat_of (seats_in s round) member)
