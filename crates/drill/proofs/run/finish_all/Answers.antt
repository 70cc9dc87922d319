use Rattle.std.proofs.Common.{◌≡◌, ◌≤◌, ◌+◌, ◌*◌, ◌∙◌, ℕ, get_or, inl, inr, refl, sym, subst, arith}
use Rattle.std.proofs.lemmas.Bool.{cases_eq}
use Rattle.drill.specs.Courses.{AreFinished, steps_of}
use Rattle.drill.specs.declared.seat.Seat.{Seat as Place}
use Rattle.drill.proofs.Counting.{within-more}
use Rattle.drill.proofs.run.finish_all.Goals as goal

pub sessions-preserved : goal.sessions-preserved
sessions-preserved c =
    let before = c.sessions.invariant in
    let e = c.in_ok-drill.ensures in
    let t = c.finish_session.ensures in
    let low = before.within.asks in
    let now = t.within.asks in
    let after = c.in_ok-drill.drill in
    record {
      seated = record { is_for = e.seated.is_for; count = e.seated.count ∙ before.seated.count };
      well = λ own extra well.
          let f = before.well own extra well in
          let g = e.well own extra f.well in
          record {
            well = g.well;
            ended = λ j none inside. elim (cases_eq j c.sessions.i) [
              | inl same ↦ subst (λ (k : ℕ). 5 ≤ steps_of (get_or after.seats.items k none)) (sym same) (g.ended none)
              | inr other ↦ subst (λ (x : Place). 5 ≤ steps_of x) (sym (g.others j none other)) (f.ended j none (omega arith))
            ];
          };
      within = record { asks = omega arith; parts = t.within.parts };
      cuts = t.cuts ∙ before.cuts;
      restarts = t.restarts ∙ before.restarts;
    }

pub returns-clause-well : goal.returns-clause-well
returns-clause-well c = λ own extra well.
    let all : c.sessions.i ≡ c.args.sessions = omega arith in
    subst (λ (n : ℕ). AreFinished c.args.desk.now own.dealing extra n c.sessions.drill c.sessions.tally) all (c.sessions.invariant.well own extra well)

pub sessions-init : goal.sessions-init
sessions-init c = record {
  seated = c.requires.seated;
  well = λ own extra well. record { well = well; ended = λ j none inside. absurd (omega (arith, inside)) };
  within = within-more 200000 _ c.args.tally.now c.args.tally.now c.requires.room (omega arith) refl refl refl;
  cuts = refl;
  restarts = refl;
}

pub finish_session-requires-clause-is_for : goal.finish_session-requires-clause-is_for
finish_session-requires-clause-is_for c = c.sessions.invariant.seated.is_for

pub finish_session-requires-clause-within : goal.finish_session-requires-clause-within
finish_session-requires-clause-within c =
    let count = c.sessions.invariant.seated.count in
    let below = c.sessions-test.true in
    omega (arith, count, below)

pub finish_session-requires-clause-room : goal.finish_session-requires-clause-room
finish_session-requires-clause-room c =
    let few = c.requires.few in
    let below = c.sessions-test.true in
    within-more (200000 + 5 * c.sessions.i) 900000 c.sessions.tally c.sessions.tally c.sessions.invariant.within (omega (arith, few, below)) refl refl refl

pub returns-in_err-drill-clause-parts : goal.returns-in_err-drill-clause-parts
returns-in_err-drill-clause-parts c = c.finish_session.ensures.within.parts

pub returns-in_err-drill-clause-cuts : goal.returns-in_err-drill-clause-cuts
returns-in_err-drill-clause-cuts c = c.finish_session.ensures.cuts ∙ c.sessions.invariant.cuts

pub returns-in_err-drill-clause-restarts : goal.returns-in_err-drill-clause-restarts
returns-in_err-drill-clause-restarts c = c.finish_session.ensures.restarts ∙ c.sessions.invariant.restarts
