use Rattle.std.proofs.Common.{◌≡◌, ◌+◌, ◌*◌, ℕ, refl, sym, subst, arith}
use Rattle.drill_schedule.proofs.Drawing.{state-none}
use Rattle.drill_schedule.specs.Draws.{event_at}
use Rattle.drill_schedule.specs.Events.{is_restart}
use Rattle.drill.specs.Courses.{HasPlayed}
use Rattle.drill.specs.Tallies.{HasCounted}
use Rattle.drill.proofs.Counting.{counts-more, counts-none, one-or-none, state-more}
use Rattle.drill.proofs.Playing.{none-played}
use Rattle.drill.proofs.run.play_all.Goals as goal

pub events-init : goal.events-init
events-init c = record {
  seated = c.requires.seated;
  within = record { asks = omega arith; parts = omega arith };
  well = λ own number is good waiting. none-played c.args.desk.now own.dealing number c.args.sessions c.args.drill _ good waiting refl refl refl;
  few = omega arith;
  state = λ number is. is;
  counted = λ number is. counts-none number _ refl refl;
}

pub events-preserved : goal.events-preserved
events-preserved c =
    let e = c.in_ok-drill.ensures in
    let before = c.events.invariant in
    let low = before.within.asks in
    let here = c.events.generator.state in
    let one = e.counted here 0 (sym (state-none here)) in
    let now = one.within in
    let more = one.restarts in
    let few = one-or-none (is_restart (event_at here 0).event) in
    let was = before.few in
    record {
      seated = e.seated;
      within = record { asks = omega arith; parts = now.parts };
      well = λ own number is good waiting. e.well own number c.events.done (before.state number is) (before.well own number is good waiting);
      few = omega arith;
      state = λ number is. state-more number c.events.done _ (c.play_next.ensures.state number (176 + 3 * c.events.done) (before.state number is));
      counted = λ number is. counts-more number c.events.done _ _ (before.counted number is) (e.counted number (176 + 3 * c.events.done) (before.state number is));
    }

pub returns-clause-counted : goal.returns-clause-counted
returns-clause-counted c = λ number is.
    let all : c.events.done ≡ c.args.events = omega arith in
    subst (λ (k : ℕ). HasCounted number k c.events.tally) all (c.events.invariant.counted number is)

pub returns-clause-well : goal.returns-clause-well
returns-clause-well c = λ own number is good waiting.
    let all : c.events.done ≡ c.args.events = omega arith in
    subst (λ (k : ℕ). HasPlayed c.args.desk.now own.dealing number c.args.sessions k c.events.drill c.events.tally) all (c.events.invariant.well own number is good waiting)
