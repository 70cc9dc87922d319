-- A linear congruential generator with 64 bits of state.
use Rattle.std.specs.Prelude.{ℕ, ◌+◌, ◌*◌, ◌/◌, ◌%◌, ◌^◌}

-- the state after a draw
unfoldable pub state_after : ℕ → ℕ
state_after state = (state * 6364136223846793005 + 1442695040888963407) % 2 ^ 64

-- what a draw gives: the upper 32 bits of the new state
unfoldable pub draw_of : ℕ → ℕ
draw_of state = state_after state / 2 ^ 32
