use Rattle.std.proofs.Common.{◌≡◌, ◌+◌, ℕ, ◌∙◌, ap, arith}
use Rattle.disk_trait.specs.Generator.{draw_of}
use Rattle.drill_schedule.specs.Draws.{draw_at, state_at}
use Rattle.drill_schedule.specs.Events.{event_of}
use Rattle.drill_schedule.proofs.Drawing.{state-next}
use Rattle.drill_schedule.proofs.draws.Schedule.draw.Goals as goal

three : (i : ℕ) → i + 1 + 1 + 1 ≡ i + 3
three i = omega arith

two : (i : ℕ) → i + 1 + 1 ≡ i + 2
two i = omega arith

pub returns-clause-schedule : goal.returns-clause-schedule
returns-clause-schedule c = λ number i is.
    let one = state-next number i _ _ is c.draw.ensures.after in
    let second = state-next number (i + 1) _ _ one c.draw-session.ensures.after in
    let e : c.of-event.result ≡ event_of (draw_at number i) = c.of-event.ensures ∙ ap event_of (c.draw.ensures.value ∙ ap draw_of is) in
    let s : c.draw-session.result ≡ draw_at number (i + 1) = c.draw-session.ensures.value ∙ ap draw_of one in
    let p : c.draw-pick.result ≡ draw_at number (i + 2) = c.draw-pick.ensures.value ∙ ap draw_of second ∙ ap (λ (k : ℕ). draw_at number k) (two i) in
    λ j. record { event = e j; session = s j; pick = p j }

pub returns-clause-after : goal.returns-clause-after
returns-clause-after c = λ number i is.
    let one = state-next number i _ _ is c.draw.ensures.after in
    let second = state-next number (i + 1) _ _ one c.draw-session.ensures.after in
    state-next number (i + 1 + 1) _ _ second c.draw-pick.ensures.after ∙ ap (state_at number) (three i)
