-- The ids of the messages that a drill signs.
use Rattle.std.specs.Prelude.{◌≡◌, ◌<◌, ℕ, List}
use Rattle.drill_schedule.specs.Draws.{message_bytes}
use Rattle.lms_bytes.specs.MessageId.{message_id, message_id_bytes}

-- the 36 bytes of the id of message i
abbrev pub id_of : ℕ → List ℕ
id_of i = message_id_bytes (message_id (message_bytes i))

-- no two of the first `count` messages have the same id
abbrev pub DifferentIds : ℕ → Type 0
DifferentIds count = (i j : ℕ) → i < count → j < count → id_of i ≡ id_of j → i ≡ j
