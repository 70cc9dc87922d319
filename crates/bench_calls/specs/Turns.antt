-- Passes that have taken their turns.
use Rattle.std.specs.Prelude.{◌≡◌, ℕ, ◌-◌, ◌*◌, ◌^◌, ◌<◌, ◌≤◌, false}
use Rattle.turn_lock.specs.Lock.{Lock}
use Rattle.turn_lock.specs.Pass.{Seen}

-- a pass of this lock that holds no turn, and in which each joined pass took `each` turns, each of which raised the
-- number by 1, unless the pass was worn or the number stands at its end
pub record IsDone {E N : Type 0} (lock : Lock E N) (each : ℕ) (pass : Seen E N) : Type 0 where
  pub of : pass.lock ≡ lock
  pub idle : pass.in_turn ≡ false
  pub draws : pass.draws ≤ pass.joined * each
  pub rises : pass.rises ≤ pass.joined * each
  pub all : pass.greatest < 2 ^ 62 → pass.floor < 2 ^ 64 - 1 → pass.rises ≡ pass.joined * each
