-- What no call of pages or of a disk changes.
use Rattle.std.specs.Prelude.{◌≡◌, ℕ, Bool}

-- whether it is told, honest and steady, and what it has room for, are as they were
pub record SameKind {D : Type 0} (is_told is_honest is_steady : D → Bool) (room_of : D → ℕ) (old new : D)
    : Type 0 where
  pub told : is_told new ≡ is_told old
  pub honest : is_honest new ≡ is_honest old
  pub steady : is_steady new ≡ is_steady old
  pub room : room_of new ≡ room_of old
