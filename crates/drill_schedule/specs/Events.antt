-- The events of a drill.
use Rattle.std.specs.Prelude.{ℕ, ◌==◌, ◌%◌, nat_lt, Bool, true, false, if◌then◌else◌}
use Rattle.drill_schedule.specs.declared.event.Event.{Event}
use Rattle.drill_schedule.specs.declared.event.Event.TheVariants.{Step, Twice, Dropped, Cut, Restart}

-- this project's profile: the event that a draw stands for, given by its remainder modulo 8
abbrev pub event_of : ℕ → Event
event_of draw =
    if nat_lt (draw % 8) 4 then Step else
    if draw % 8 == 4 then Twice else
    if draw % 8 == 5 then Dropped else
    if draw % 8 == 6 then Cut else Restart

-- the events in which a disk may stop, and those in which a trustee is loaded anew
abbrev pub is_cut : Event → Bool
is_cut Step = false
is_cut Twice = false
is_cut Dropped = false
is_cut Cut = true
is_cut Restart = false

abbrev pub is_restart : Event → Bool
is_restart Step = false
is_restart Twice = false
is_restart Dropped = false
is_restart Cut = false
is_restart Restart = true
