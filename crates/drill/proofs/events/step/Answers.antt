use Rattle.std.proofs.Common.{arith, length, set, sym, ◌∙◌, refl, subst}
use Rattle.std.proofs.lemmas.Result.{err_from_is_err_and}
use Rattle.std.proofs.lemmas.List.{length-set}
use Rattle.drill_trustees.specs.Trustees.{leaf_at}
use Rattle.drill.specs.Courses.{HasSigned, IsGoing, MayStep, uses_of}
use Rattle.drill.specs.Seats.{Fits}
use Rattle.drill.specs.declared.seat.Seat.{Seat}
use Rattle.drill.proofs.Seated.{get_or-any, stepped}
use Rattle.drill.proofs.Seating.{set-fits}
use Rattle.drill.proofs.events.step.Goals as goal

pub step_seat-requires-clause-fits : goal.step_seat-requires-clause-fits
step_seat-requires-clause-fits c =
    let here = c.requires.is_for.seats c.args.i c.index_mut.result.now c.requires.within in
    subst (λ (s : Seat). Fits c.args.desk.now.dealt.public c.args.desk.now.plan c.args.i s) (sym (c.replace-seat.ensures.value ∙ c.index_mut.ensures.value)) here

pub returns-clause-stays : goal.returns-clause-stays
returns-clause-stays c =
    let seats = c.args.drill.seats.items in
    let replaced = set seats c.args.i c.replace-seat.new.dest in
    record {
      is_for = record {
        table = c.step_seat.ensures.table;
        seats = set-fits c.args.desk.now.dealt.public c.args.desk.now.plan seats c.args.i c.replace-seat.new.dest c.in_ok-trustees.seat
            c.requires.is_for.seats c.requires.within c.in_ok-trustees.ensures.to.fits;
      };
      count = length-set replaced c.args.i c.in_ok-trustees.seat ∙ length-set seats c.args.i c.replace-seat.new.dest;
      bound = c.in_ok-trustees.ensures.to.bound;
    }

pub returns-clause-goes : goal.returns-clause-goes
returns-clause-goes c = λ own good.
    let was = c.replace-seat.ensures.value ∙ c.index_mut.ensures.value in
    let at = c.in_ok-trustees.ensures in
    let going = subst (λ (x : Seat). IsGoing c.args.desk.now own.dealing c.args.i (uses_of c.args.drill.table) (leaf_at c.args.drill.trustees) x) (sym was)
    (good.seats c.args.i c.index_mut.result.now c.requires.within) in
    let may : MayStep c.args.desk.now own.dealing c.args.i c.args.drill.table c.args.drill.trustees c.replace-seat.result = record { shares = good.shares; settled = good.table; free = good.free; going = going } in
    let steps = at.goes own may in
    stepped c.args.desk.now own c.args.i c.args.drill _ c.replace-seat.result c.replace-seat.new.dest c.in_ok-trustees.seat _ good c.requires.within
    (was ∙ get_or-any c.args.drill.seats.items c.args.i c.index_mut.result.now c.replace-seat.result c.requires.within) steps.0 steps.1 refl
    (at.openings own (length c.args.drill.seats.items) c.requires.within good.different may
    (record {
      own = good.openings;
      keeps = omega arith;
      some = λ has. good.some c.args.i c.index_mut.result.now c.requires.within (subst HasSigned was has);
    }))

pub returns-in_err-trustees-clause-stays : goal.returns-in_err-trustees-clause-stays
returns-in_err-trustees-clause-stays c = rw (err_from_is_err_and c.from_residual.result c.from_residual.ensures.1).1 tt

pub returns-in_err-trustees-clause-cut : goal.returns-in_err-trustees-clause-cut
returns-in_err-trustees-clause-cut c = rw (err_from_is_err_and c.from_residual.result c.from_residual.ensures.1).1 tt

pub returns-in_err-trustees-clause-goes : goal.returns-in_err-trustees-clause-goes
returns-in_err-trustees-clause-goes c = λ own good. rw (err_from_is_err_and c.from_residual.result c.from_residual.ensures.1).1 tt

pub step_seat-requires-clause-table : goal.step_seat-requires-clause-table
step_seat-requires-clause-table c = c.requires.is_for.table

pub returns-clause-cut : goal.returns-clause-cut
returns-clause-cut c = c.in_ok-trustees.ensures.to.cut
