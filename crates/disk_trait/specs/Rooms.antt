-- How long a disk can become.
use Rattle.std.specs.Prelude.{ℕ, ◌^◌, max}

-- what a disk of this length never exceeds: no write ends at 2 ^ 65 or behind it
abbrev pub room_from : ℕ → ℕ
room_from length = max length (2 ^ 65)
