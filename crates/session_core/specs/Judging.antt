-- What is wrong with the replies of a round.
use Rattle.std.specs.Prelude.{ℕ, ◌==◌, ◌&&◌, List, [], ◌∷◌, map, Option, Some, None, if◌then◌else◌}
use Rattle.std.specs.Str.{bytes_eq}
use Rattle.lms_bytes.specs.Bytes.{bytes_at, str_to_u32}
use Rattle.lms_bytes.specs.declared.message.MessageId.{MessageId}
use Rattle.session_core.specs.Replies.{same_message}
use Rattle.session_core.specs.Seats.{Seat}
use Rattle.session_core.specs.State.{State, round_of, seats_of}
use Rattle.session_core.specs.declared.faults.KeptValue.TheVariants.{Message, Digest}
use Rattle.session_core.specs.declared.faults.SessionFault.{SessionFault}
use Rattle.session_core.specs.declared.faults.SessionFault.TheVariants.{Missing, SpentLeaf, WrongCheck, MemberRefused}

-- the randomizer and the digest under which round two asks
pub record Opening : Type 0 where
  pub c : List ℕ
  pub digest : List ℕ

-- the message id that a refusal of code 9 shows
abbrev pub kept_message : List ℕ → MessageId
kept_message body = record { length = str_to_u32 (bytes_at body 0 4); hash = bytes_at body 4 32 }

-- a leaf that is bound to another message is spent
abbrev pub spent_fault : State → ℕ → List ℕ → SessionFault
spent_fault s member body =
    if same_message (kept_message body) s.message then MemberRefused member 9
    else SpentLeaf s.leaf member (Message (kept_message body))

-- a leaf that was opened under another randomizer or digest is spent: a refusal of code 10 has both, n bytes each
abbrev pub opened_fault : State → List ℕ → List ℕ → ℕ → List ℕ → SessionFault
opened_fault s c digest member body =
    let n = s.key.params.n in
    let kept_c = bytes_at body 0 n in
    let kept_digest = bytes_at body n n in
    if bytes_eq kept_c c && bytes_eq kept_digest digest then MemberRefused member 10
    else SpentLeaf s.leaf member (Digest kept_c kept_digest)

-- what a refusal means: in round two the randomizer is known, and the message's digest under it
abbrev pub refusal_fault : State → List ℕ → ℕ → ℕ → List ℕ → SessionFault
refusal_fault s digest member code body =
    if code == 9 then spent_fault s member body else
    elim s.c [
      | None ↦ MemberRefused member code
      | Some c ↦
          if code == 5 then WrongCheck s.leaf member else
          if code == 10 then opened_fault s c digest member body else MemberRefused member code
    ]

-- what is wrong with what is kept for a member, if something is
abbrev pub seat_fault : State → List ℕ → Seat → Option SessionFault
seat_fault s digest seat = elim seat.code [
  | None ↦ Some (Missing seat.member (round_of s))
  | Some code ↦ if code == 0 then None else Some (refusal_fault s digest seat.member code seat.body)
]

-- the first of them that is a fault
unfoldable pub first_fault : List (Option SessionFault) → Option SessionFault
first_fault [] = None
first_fault (None ∷ seats) = first_fault seats
first_fault (Some fault ∷ seats) = Some fault

-- what is wrong with the present round: the first fault by ascending member
abbrev pub round_fault : State → List ℕ → Option SessionFault
round_fault s digest = first_fault (map (seat_fault s digest) (seats_of s))
