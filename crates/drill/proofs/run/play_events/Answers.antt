use Rattle.std.proofs.Common.{◌≡◌, ℕ, IfOk, refl, sym, subst, arith}
use Rattle.drill.proofs.Counting.{counts-none, events-few, events-some}
use Rattle.drill.proofs.Playing.{none-played}
use Rattle.drill.specs.Courses.{HasPlayed}
use Rattle.drill.specs.Tallies.{HasCounted}
use Rattle.drill.specs.declared.tally.Tally.{Tally}
use Rattle.drill.proofs.run.play_events.Goals as goal

pub returns-then-sessions-eq0-clause-counted : goal.returns-then-sessions-eq0-clause-counted
returns-then-sessions-eq0-clause-counted c = λ number is.
    let none : c.args.sessions ≡ 0 = omega arith in
    let all = events-few c.args.sessions c.args.events none in
    let tally : Tally = record { asks = 0; granted = 0; cuts = 0; restarts = 0 } in
    subst (λ (k : ℕ). HasCounted number k tally) (sym all) (counts-none number tally refl refl)

pub returns-clause-counted : goal.returns-clause-counted
returns-clause-counted c = λ number is.
    let all = events-some c.args.sessions c.args.events (λ none. omega arith) in
    subst (λ (k : ℕ). IfOk c.play_all.result (λ pair. HasCounted number k pair.1)) (sym all) (c.play_all.ensures.counted number is)

pub returns-then-sessions-eq0-clause-well : goal.returns-then-sessions-eq0-clause-well
returns-then-sessions-eq0-clause-well c = λ own number is good waiting.
    let none : c.args.sessions ≡ 0 = omega arith in
    let all = events-few c.args.sessions c.args.events none in
    let tally : Tally = record { asks = 0; granted = 0; cuts = 0; restarts = 0 } in
    subst (λ (k : ℕ). HasPlayed c.args.desk.now own.dealing number c.args.sessions k c.args.drill tally) (sym all)
    (none-played c.args.desk.now own.dealing number c.args.sessions c.args.drill tally good waiting refl refl refl)

pub returns-clause-well : goal.returns-clause-well
returns-clause-well c = λ own number is good waiting.
    let all = events-some c.args.sessions c.args.events (λ none. omega arith) in
    subst (λ (k : ℕ). IfOk c.play_all.result (λ pair. HasPlayed c.args.desk.now own.dealing number c.args.sessions k pair.0 pair.1)) (sym all) (c.play_all.ensures.well own number is good waiting)
