-- Which replies a session keeps.
use Rattle.std.specs.Prelude.{◌≡◌, ◌<◌, ℕ, ◌==◌, ◌&&◌, nat_le, Bool, List, length, if◌then◌else◌}
use Rattle.std.specs.Str.{bytes_eq}
use Rattle.lms_bytes.specs.declared.ask.ReplyHead.{ReplyHead}
use Rattle.lms_bytes.specs.declared.message.MessageId.{MessageId}
use Rattle.session_core.specs.Seats.{has_seat, is_filled, place_of, seat_of, with_reply}
use Rattle.session_core.specs.State.{State, asked_c, body_length, round_of, seats_of, with_seats}
use Rattle.session_core.specs.declared.step.Step.{Step}
use Rattle.session_core.specs.declared.step.Step.TheVariants.{NotMine, Repeat, Kept}

abbrev pub same_message : MessageId → MessageId → Bool
same_message a b = (a.length == b.length) && bytes_eq a.hash b.hash

-- the reply names the ask of the present round: key, leaf, message, round and randomizer
abbrev pub names_ask : State → ReplyHead → Bool
names_ask s head =
    bytes_eq head.key s.key.id && (head.leaf == s.leaf) && same_message head.message s.message
    && (head.round == round_of s) && bytes_eq head.c (asked_c s)

-- it is from a member, and its body has the length of its code, which is one of 0 to 12
abbrev pub is_whole : State → ReplyHead → List ℕ → Bool
is_whole s head body =
    has_seat (seats_of s) head.member && nat_le head.code 12
    && (length body == body_length s.key.params (round_of s) head.code)

-- the same as a fact
pub record IsWhole (s : State) (head : ReplyHead) (body : List ℕ) : Type 0 where
  pub member : place_of (seats_of s) head.member < length (seats_of s)
  pub size : length body ≡ body_length s.key.params (round_of s) head.code

-- the reply answers the ask of the present round to a member
abbrev pub answers : State → ReplyHead → List ℕ → Bool
answers s head body = names_ask s head && is_whole s head body

-- what a session says about a reply
abbrev pub step_of : State → ReplyHead → List ℕ → Step
step_of s head body =
    if answers s head body then (if is_filled (seat_of (seats_of s) head.member) then Repeat else Kept) else NotMine

-- what it does to the session: the first reply of each member is kept
abbrev pub with_delivery : State → ReplyHead → List ℕ → State
with_delivery s head body =
    if answers s head body then
    (if is_filled (seat_of (seats_of s) head.member) then s else
    with_seats s (with_reply (seats_of s) head.member head.code body))
    else s
