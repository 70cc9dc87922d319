use Rattle.std.proofs.Common.{◌∙◌, arith}
use Rattle.std.proofs.lemmas.Result.{err_from_is_err_and}
use Rattle.drill.proofs.Finishing.{one-more}
use Rattle.drill.proofs.run.finish_session.Goals as goal

pub steps-preserved : goal.steps-preserved
steps-preserved c =
    let before = c.steps.invariant in
    let e = c.in_ok-after.ensures in
    let a = c.add.ensures in
    let put = e.stays.bound.put in
    let parts = e.stays.bound.parts in
    let low = before.within.asks in
    let was = before.within.parts in
    let none = e.cut in
    let cuts = before.cuts in
    let one = a.asks in
    let two = a.granted in
    let three = a.cuts in
    record {
      seated = record { is_for = e.stays.is_for; count = e.stays.count ∙ before.seated.count };
      steps = λ own extra well.
          let at = before.steps own extra well in
          one-more c.args.desk.now own.dealing extra c.args.i c.args.drill c.steps.drill c.in_ok-after.after c.steps.tally c.add.new.self c.in_ok-after.asks c.steps.taken at
          (e.goes own at.well.good) (omega arith) two three one;
      within = record { asks = omega arith; parts = omega arith };
      cuts = omega arith;
      restarts = a.restarts ∙ before.restarts;
    }

pub returns-clause-well : goal.returns-clause-well
returns-clause-well c = λ own extra well.
    let at = c.steps.invariant.steps own extra well in
    record { well = at.well; ended = λ none. let low = at.least none in omega arith; others = at.others }

pub returns-in_err-after-clause-seated : goal.returns-in_err-after-clause-seated
returns-in_err-after-clause-seated c = rw (err_from_is_err_and c.from_residual.result c.from_residual.ensures.1).1 tt

pub returns-in_err-after-clause-well : goal.returns-in_err-after-clause-well
returns-in_err-after-clause-well c = λ own extra well. rw (err_from_is_err_and c.from_residual.result c.from_residual.ensures.1).1 tt
