-- What is drawn from the number of a drill.
use Rattle.std.specs.Prelude.{ℕ, zero, suc, ◌+◌, ◌*◌, ◌%◌, Bool, List, [], ◌∷◌, ◌++◌, slice_set, if◌then◌else◌}
use Rattle.disk_trait.specs.Generator.{draw_of, state_after}
use Rattle.drill_schedule.specs.Events.{event_of}
use Rattle.drill_schedule.specs.declared.draws.Schedule.{Schedule}
use Rattle.drill_schedule.specs.declared.event.Event.{Event}
use Rattle.lms_bytes.specs.Bytes.{u32str}

-- the state of a generator after i draws
unfoldable pub state_at : ℕ → ℕ → ℕ
state_at number zero = number
state_at number (suc i) = state_after (state_at number i)

-- draw i, counted from 0
abbrev pub draw_at : ℕ → ℕ → ℕ
draw_at number i = draw_of (state_at number i)

-- the event whose three draws begin with draw i
abbrev pub event_at : ℕ → ℕ → Schedule
event_at number i = record {
  event = event_of (draw_at number i);
  session = draw_at number (i + 1);
  pick = draw_at number (i + 2);
}

-- the low bytes of the first draws
unfoldable pub bytes_of : ℕ → ℕ → List ℕ
bytes_of number zero = []
bytes_of number (suc i) = bytes_of number i ++ (draw_at number i % 256) ∷ []

-- this project's profile: 176 bytes, except that the key of trustee t begins with t
unfoldable pub entropy_of : ℕ → List ℕ
entropy_of number = slice_set (slice_set (slice_set (bytes_of number 176) 80 1) 112 2) 144 3

-- this project's profile: the message of a session is `drill` and its number
abbrev pub message_bytes : ℕ → List ℕ
message_bytes session = 100 ∷ 114 ∷ 105 ∷ 108 ∷ 108 ∷ u32str session

-- how many of the first i events of a drill are of a kind: their draws follow the 176 of the entropy
unfoldable pub events_of : (Event → Bool) → ℕ → ℕ → ℕ
events_of kind number zero = 0
events_of kind number (suc i) =
    events_of kind number i + (if kind (event_at number (176 + 3 * i)).event then 1 else 0)
