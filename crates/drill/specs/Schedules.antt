-- What a drill comes to, by its schedule alone.
use Rattle.std.specs.Prelude.{ℕ, zero, suc, ◌+◌, ◌-◌, ◌*◌, ◌/◌, ◌%◌, ◌==◌, ◌&&◌, nat_lt, min, Bool, true, false}
use Rattle.std.specs.Prelude.{if◌then◌else◌}
use Rattle.drill_schedule.specs.Draws.{event_at}
use Rattle.drill_schedule.specs.Events.{is_cut}
use Rattle.drill_schedule.specs.declared.event.Event.{Event}
use Rattle.drill_schedule.specs.declared.event.Event.TheVariants.{Step, Twice, Dropped, Cut, Restart}

-- how many of `sessions` sessions are of coalition c: session i is of coalition i modulo 3
abbrev pub sessions_of : ℕ → ℕ → ℕ
sessions_of c sessions = (sessions + 2 - c) / 3

-- how many of the 32 leaves are of coalition c: leaf q is of coalition q modulo 3
abbrev pub leaves_of : ℕ → ℕ
leaves_of c = if c == 2 then 10 else 11

-- how many sessions sign: all of each coalition, or as many as it has leaves
abbrev pub signed_of : ℕ → ℕ
signed_of sessions = min (sessions_of 0 sessions) 11 + min (sessions_of 1 sessions) 11 + min (sessions_of 2 sessions) 10

-- How many steps each session has taken, and how many leaves each coalition has leased. The first step of a session is
-- its lease, and each of the other four is an ask whose answer it takes; one that is refused has taken all five.
pub record Progress : Type 0 where
  pub steps : ℕ → ℕ
  pub leased : ℕ → ℕ

-- nothing has happened
abbrev pub no_progress : Progress
no_progress = record { steps = λ i. 0; leased = λ c. 0 }

-- the values with another one at `i`
abbrev pub with_value : (ℕ → ℕ) → ℕ → ℕ → ℕ → ℕ
with_value values i value k = if k == i then value else values k

-- a session has a next ask after its lease and before its end
abbrev pub has_ask : Progress → ℕ → Bool
has_ask p i = nat_lt 0 (p.steps i) && nat_lt (p.steps i) 5

-- session i takes a step: if it waits, it leases a leaf, or is refused if its coalition has leased all
abbrev pub after_step : Progress → ℕ → Progress
after_step p i =
    let c = i % 3 in
    if p.steps i == 0
    then (if nat_lt (p.leased c) (leaves_of c)
    then record { steps = with_value p.steps i 1; leased = with_value p.leased c (p.leased c + 1) }
    else record { steps = with_value p.steps i 5; leased = p.leased })
    else record { steps = with_value p.steps i (min (p.steps i + 1) 5); leased = p.leased }

-- an event of session i: it takes a step, or the second answer to an ask that is put twice; no other event moves it
abbrev pub after_event : Event → Progress → ℕ → Progress
after_event Step p i = after_step p i
after_event Twice p i = if has_ask p i then after_step p i else p
after_event Dropped p i = p
after_event Cut p i = p
after_event Restart p i = p

-- the events in which the next ask of a session is put, if it has one, and the answer is dropped
abbrev pub drops_answer : Event → Bool
drops_answer Step = false
drops_answer Twice = true
drops_answer Dropped = true
drops_answer Cut = true
drops_answer Restart = false

-- 1 for an ask beyond those whose replies are taken
abbrev pub extra_in : Event → Progress → ℕ → ℕ
extra_in event p i = if drops_answer event && has_ask p i then 1 else 0

-- 1 for an event in which a disk may stop: the session has a next ask
abbrev pub cut_in : Event → Progress → ℕ → ℕ
cut_in event p i = if is_cut event && has_ask p i then 1 else 0

-- how far the sessions have come after a number of events: their draws follow the 176 of the entropy
unfoldable pub progress_of : ℕ → ℕ → ℕ → Progress
progress_of number sessions zero = no_progress
progress_of number sessions (suc k) =
    let drawn = event_at number (176 + 3 * k) in
    after_event drawn.event (progress_of number sessions k) (drawn.session % sessions)

-- how many answers were dropped in a number of events
unfoldable pub extra_asks : ℕ → ℕ → ℕ → ℕ
extra_asks number sessions zero = 0
extra_asks number sessions (suc k) =
    let drawn = event_at number (176 + 3 * k) in
    extra_asks number sessions k + extra_in drawn.event (progress_of number sessions k) (drawn.session % sessions)

-- in how many of a number of events a disk may stop
unfoldable pub cut_asks : ℕ → ℕ → ℕ → ℕ
cut_asks number sessions zero = 0
cut_asks number sessions (suc k) =
    let drawn = event_at number (176 + 3 * k) in
    cut_asks number sessions k + cut_in drawn.event (progress_of number sessions k) (drawn.session % sessions)
