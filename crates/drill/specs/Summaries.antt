-- What comes of a drill.
use Rattle.std.specs.Prelude.{◌≡◌, ◌<◌, ◌≤◌, ◌+◌, ◌*◌, ◌==◌, ℕ, if◌then◌else◌}
use Rattle.drill.specs.Ids.{DifferentIds}
use Rattle.drill.specs.Schedules.{cut_asks, extra_asks, signed_of}
use Rattle.drill_schedule.specs.Draws.{events_of}
use Rattle.drill_schedule.specs.Events.{is_cut, is_restart}
use Rattle.drill_schedule.specs.declared.summary.Summary.{Summary}

-- how many events happen: none if there is no session
abbrev pub events_in : ℕ → ℕ → ℕ
events_in sessions events = if sessions == 0 then 0 else events

-- Every session has signed or was refused: of each coalition all have signed, or as many as it has leaves, so that some
-- have if there are sessions. Four asks were put for each that has signed, and one more for each answer that was
-- dropped; each was granted or stopped a disk, and a disk stopped only in events of that kind whose session has a next
-- ask. No trustee was seen to open a leaf under two digests, nor any leaf if no session has signed.
pub record IsComplete (number sessions events : ℕ) (summary : Summary) : Type 0 where
  pub ends : summary.signed + summary.refused ≡ sessions
  pub signed : summary.signed ≡ signed_of sessions
  pub some : 0 < sessions → 0 < summary.signed
  pub asks : summary.asks ≡ 4 * summary.signed + extra_asks number sessions (events_in sessions events)
  pub parts : summary.granted + summary.cuts ≡ summary.asks
  pub cuts_in : summary.cuts ≤ cut_asks number sessions (events_in sessions events)
  pub most : summary.most ≡ (if summary.signed == 0 then 0 else 1)

-- The summary counts the sessions that were asked for, and none is both signed and refused. Each ask was granted,
-- stopped a disk, or was refused; a disk stopped only in events of that kind, and a trustee was loaded anew in each
-- event of that kind. If no two of the sessions' messages have the same id, it is complete.
pub record IsSummary (number sessions events : ℕ) (summary : Summary) : Type 0 where
  pub sessions_are : summary.sessions ≡ sessions
  pub ends : summary.signed + summary.refused ≤ sessions
  pub parts : summary.granted + summary.cuts ≤ summary.asks
  pub cuts_in : summary.cuts ≤ events_of is_cut number (events_in sessions events)
  pub restarts_are : summary.restarts ≡ events_of is_restart number (events_in sessions events)
  pub complete : DifferentIds sessions → IsComplete number sessions events summary
