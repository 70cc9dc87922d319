-- internal: What is counted in a drill.
use Rattle.std.specs.Prelude.{◌≡◌, ◌≤◌, ◌+◌, ℕ, if◌then◌else◌}
use Rattle.drill_schedule.specs.Draws.{events_of}
use Rattle.drill_schedule.specs.Events.{is_cut, is_restart}
use Rattle.drill_schedule.specs.declared.event.Event.{Event}
use Rattle.drill.specs.declared.tally.Tally.{Tally}

-- no more asks than this were put, and each was granted, stopped a disk, or was refused
pub record IsWithin (bound : ℕ) (tally : Tally) : Type 0 where
  pub asks : tally.asks ≤ bound
  pub parts : tally.granted + tally.cuts ≤ tally.asks

-- one more event was counted
pub record CountsOne (event : Event) (old new : Tally) : Type 0 where
  pub within : IsWithin (old.asks + 2) new
  pub cuts : new.cuts ≤ old.cuts + (if is_cut event then 1 else 0)
  pub restarts : new.restarts ≡ old.restarts + (if is_restart event then 1 else 0)

-- the first `events` events of a schedule were counted: a disk has stopped only in events of that kind, and a trustee
-- was loaded anew in each event of that kind
pub record HasCounted (number events : ℕ) (tally : Tally) : Type 0 where
  pub cuts : tally.cuts ≤ events_of is_cut number events
  pub restarts : tally.restarts ≡ events_of is_restart number events
