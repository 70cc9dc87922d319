-- What a list of deliveries does to a session, and what is wrong with its round.
use Rattle.std.specs.Prelude.{ℕ, ◌==◌, ◌&&◌, List, [], ◌∷◌, map, Option, Some, None, if◌then◌else◌}
use Rattle.coalition_map.specs.Coalitions.{leaf_members}
use Rattle.lms_bytes.specs.declared.ask.ReplyHead.{ReplyHead}
use Rattle.session_core.specs.Judging.{first_fault, refusal_fault}
use Rattle.session_core.specs.Replies.{answers, with_delivery}
use Rattle.session_core.specs.Seats.{Seat, filled_seat}
use Rattle.session_core.specs.State.{State, round_of, seats_of}
use Rattle.session_core.specs.declared.faults.SessionFault.{SessionFault}
use Rattle.session_core.specs.declared.faults.SessionFault.TheVariants.{Missing}

-- a reply that arrives
pub record Delivery : Type 0 where
  pub head : ReplyHead
  pub body : List ℕ

-- the session once these have been taken, one after the other
unfoldable pub delivered : State → List Delivery → State
delivered s [] = s
delivered s (d ∷ ds) = delivered (with_delivery s d.head d.body) ds

-- the first of them that answers the ask of the present round to member t
unfoldable pub first_reply : State → ℕ → List Delivery → Option Delivery
first_reply s t [] = None
first_reply s t (d ∷ ds) = if (t == d.head.member) && answers s d.head d.body then Some d else first_reply s t ds

-- the seat of a member whose first reply this is, if there is one
abbrev pub answered_seat : Seat → Option Delivery → Seat
answered_seat seat None = seat
answered_seat seat (Some d) = filled_seat seat d.head.code d.body

-- the seats of the present round, each with its member's first reply
abbrev pub answered_seats : State → List Delivery → List Seat
answered_seats s ds = map (λ (seat : Seat). answered_seat seat (first_reply s seat.member ds)) (seats_of s)

-- what is wrong with a member whose first reply this is, judged by its code
abbrev pub reply_fault : State → List ℕ → ℕ → Option Delivery → Option SessionFault
reply_fault s digest t None = Some (Missing t (round_of s))
reply_fault s digest t (Some d) =
    if d.head.code == 0 then None else Some (refusal_fault s digest t d.head.code d.body)

-- the body of a first reply, or none if there is none
abbrev pub reply_body : Option Delivery → List ℕ
reply_body None = []
reply_body (Some d) = d.body

-- what is wrong with a round over a list of deliveries: for each member of the leaf's coalition the first delivery that
-- answers its ask is judged, and the first fault by ascending member is the round's
abbrev pub deliveries_fault : State → List ℕ → List Delivery → Option SessionFault
deliveries_fault s digest ds =
    first_fault (map (λ t. reply_fault s digest t (first_reply s t ds)) (leaf_members s.plan s.leaf))

-- the masks of a round without a fault: for each member those of the first delivery that answers its ask
abbrev pub first_masks : State → List Delivery → List (List ℕ)
first_masks s ds = map (λ t. reply_body (first_reply s t ds)) (leaf_members s.plan s.leaf)
