use Rattle.std.proofs.Common.{IfOk, ap, refl, sym, subst, length, List}
use Rattle.drill_schedule.specs.declared.event.Event.{Event}
use Rattle.drill.specs.Courses.{Plays}
use Rattle.drill.specs.declared.seat.Seat.{Seat}
use Rattle.drill.proofs.Counting.{ok-both, ok-so}
use Rattle.drill.proofs.Playing.{cut-once, cut-plays, dropped-plays, none-asked, restart-plays, stays-more, step-plays, uncut}
use Rattle.drill.proofs.events.play.Goals as goal

pub returns-in-Step-clause-stays : goal.returns-in-Step-clause-stays
returns-in-Step-clause-stays c = ok-so _ _ c.step.result (λ pair. stays-more c.args.desk.now c.args.drill pair.0 pair.1) c.step.ensures.stays

pub returns-in-Step-clause-cut : goal.returns-in-Step-clause-cut
returns-in-Step-clause-cut c = ok-so _ _ c.step.result (λ pair. uncut c.args.event pair.1.cut) c.step.ensures.cut

pub returns-in-Step-clause-goes : goal.returns-in-Step-clause-goes
returns-in-Step-clause-goes c = λ own good.
    subst (λ (e : Event). IfOk c.step.result (λ pair. Plays c.args.desk.now own.dealing e c.args.i c.args.drill pair.0 pair.1)) (sym c.in-Step.is)
    (ok-both _ _ _ c.step.result (λ pair. step-plays c.args.desk.now own.dealing c.args.i c.args.drill good c.requires.within pair.0 pair.1) c.step.ensures.cut (c.step.ensures.goes own good))

pub returns-in-Twice-clause-stays : goal.returns-in-Twice-clause-stays
returns-in-Twice-clause-stays c = c.ask_twice.ensures.stays

pub returns-in-Twice-clause-cut : goal.returns-in-Twice-clause-cut
returns-in-Twice-clause-cut c = ok-so _ _ c.ask_twice.result (λ pair. uncut c.args.event pair.1.cut) c.ask_twice.ensures.cut

pub returns-in-Twice-clause-goes : goal.returns-in-Twice-clause-goes
returns-in-Twice-clause-goes c = λ own good.
    subst (λ (e : Event). IfOk c.ask_twice.result (λ pair. Plays c.args.desk.now own.dealing e c.args.i c.args.drill pair.0 pair.1)) (sym c.in-Twice.is)
    (c.ask_twice.ensures.goes own good)

pub returns-in-Dropped-clause-stays : goal.returns-in-Dropped-clause-stays
returns-in-Dropped-clause-stays c = ok-so _ _ c.ask_and_drop.result (λ pair. stays-more c.args.desk.now c.args.drill pair.0 pair.1) c.ask_and_drop.ensures.stays

pub returns-in-Dropped-clause-cut : goal.returns-in-Dropped-clause-cut
returns-in-Dropped-clause-cut c = ok-so _ _ c.ask_and_drop.result (λ pair. uncut c.args.event pair.1.cut) c.ask_and_drop.ensures.cut

pub returns-in-Dropped-clause-goes : goal.returns-in-Dropped-clause-goes
returns-in-Dropped-clause-goes c = λ own good.
    subst (λ (e : Event). IfOk c.ask_and_drop.result (λ pair. Plays c.args.desk.now own.dealing e c.args.i c.args.drill pair.0 pair.1)) (sym c.in-Dropped.is)
    (ok-both _ _ _ c.ask_and_drop.result (λ pair. dropped-plays c.args.desk.now own.dealing c.args.i c.args.drill good c.requires.within pair.0 pair.1) c.ask_and_drop.ensures.cut
    (c.ask_and_drop.ensures.goes own good))

pub returns-in-Cut-clause-stays : goal.returns-in-Cut-clause-stays
returns-in-Cut-clause-stays c = ok-so _ _ c.cut.result (λ pair. stays-more c.args.desk.now c.args.drill pair.0 pair.1) c.cut.ensures.stays

pub returns-in-Cut-clause-cut : goal.returns-in-Cut-clause-cut
returns-in-Cut-clause-cut c = ok-so _ _ c.cut.result (λ pair stays. cut-once c.args.event pair.1 c.in-Cut.is stays.bound) c.cut.ensures.stays

pub returns-in-Cut-clause-goes : goal.returns-in-Cut-clause-goes
returns-in-Cut-clause-goes c = λ own good.
    subst (λ (e : Event). IfOk c.cut.result (λ pair. Plays c.args.desk.now own.dealing e c.args.i c.args.drill pair.0 pair.1)) (sym c.in-Cut.is)
    (ok-so _ _ c.cut.result (λ pair. cut-plays c.args.desk.now own.dealing c.args.i c.args.drill good c.requires.within pair.0 pair.1) (c.cut.ensures.goes own good))

pub returns-in_ok-restarted-in-Restart-clause-stays : goal.returns-in_ok-restarted-in-Restart-clause-stays
returns-in_ok-restarted-in-Restart-clause-stays c =
    let restarted = c.in_ok-restarted-in-Restart.ensures in
    record { is_for = restarted.is_for; count = ap (λ (l : List Seat). length l) restarted.seats; bound = none-asked 2 }

pub returns-in_ok-restarted-in-Restart-clause-cut : goal.returns-in_ok-restarted-in-Restart-clause-cut
returns-in_ok-restarted-in-Restart-clause-cut c = uncut c.args.event 0 refl

pub returns-in_ok-restarted-in-Restart-clause-goes : goal.returns-in_ok-restarted-in-Restart-clause-goes
returns-in_ok-restarted-in-Restart-clause-goes c = λ own good.
    let drill = c.in_ok-restarted-in-Restart.field-0 in
    subst (λ (e : Event). Plays c.args.desk.now own.dealing e c.args.i c.args.drill drill (record { put = 0; granted = 0; cut = 0 })) (sym c.in-Restart.is)
    (restart-plays c.args.desk.now own.dealing c.args.i c.args.drill good c.requires.within drill (record { put = 0; granted = 0; cut = 0 })
    (record { good = c.in_ok-restarted-in-Restart.ensures.good own good; parts = refl }) c.in_ok-restarted-in-Restart.ensures.seats refl refl)
