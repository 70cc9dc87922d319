-- internal: Where a session of a drill stands.
use Rattle.std.specs.Prelude.{◌≡◌, ◌<◌, ℕ, List, All, length, slice_index_or}
use Rattle.coalition_map.specs.Coalitions.{PlanNumbers}
use Rattle.lms_bytes.specs.MessageId.{message_id}
use Rattle.lms_bytes.specs.declared.public_key.PublicKey.{PublicKey}
use Rattle.session_core.specs.State.{State}
use Rattle.drill.specs.declared.seat.Seat.{Seat}
use Rattle.drill.specs.declared.seat.Seat.TheVariants.{Waiting, Running, Signed, Refused}
use Rattle.drill_schedule.specs.Draws.{message_bytes}

-- the session belongs to this key and this plan, and signs message i
pub record IsOf (key : PublicKey) (plan : PlanNumbers) (i : ℕ) (s : State) : Type 0 where
  pub key_is : s.key ≡ key
  pub plan_is : s.plan ≡ plan
  pub message_is : s.message ≡ message_id (message_bytes i)

abbrev pub Fits : PublicKey → PlanNumbers → ℕ → Seat → Type 0
Fits key plan i Waiting = Unit {0}
Fits key plan i (Running s) = IsOf key plan i s
Fits key plan i (Signed leaf) = Unit {0}
Fits key plan i Refused = Unit {0}

-- each seat belongs to the session of its number
abbrev pub AllFit : PublicKey → PlanNumbers → List Seat → Type 0
AllFit key plan seats =
    (i : ℕ) (none : Seat) → i < length seats → Fits key plan i (slice_index_or seats i none)

-- each session waits
abbrev pub AreWaiting : List Seat → Type 0
AreWaiting seats = All (λ (seat : Seat). seat ≡ Waiting) seats
