use Rattle.std.proofs.Common.{IfOk, refl, sym, subst}
use Rattle.std.proofs.lemmas.Result.{err_from_is_err_and}
use Rattle.drill_trustees.specs.Trustees.{leaf_at}
use Rattle.drill.specs.Courses.{IsGoing, IsSettled, Steps, uses_of, world}
use Rattle.drill.specs.declared.seat.Seat.{Seat as Place}
use Rattle.drill.specs.declared.seat.Seat.TheVariants.{Refused, Signed}
use Rattle.drill.proofs.Counting.{ok-too}
use Rattle.drill.proofs.Starting.{has-ended}
use Rattle.drill.proofs.Playing.{none-asked}
use Rattle.drill.proofs.events.step_seat.Goals as goal

pub returns-in-Running-clause-goes : goal.returns-in-Running-clause-goes
returns-in-Running-clause-goes c = λ own may.
    let uses = uses_of c.args.table.now in
    let on = subst (λ (x : Place). IsGoing c.args.desk.now own.dealing c.args.i uses (leaf_at c.args.trustees) x) c.in-Running.is may.going in
    subst (λ (x : Place). IfOk c.step_running.result (λ all.
    IsSettled c.args.table.now × Steps c.args.desk.now own.dealing c.args.i (world uses c.args.trustees) (world uses all.0) x all.1 all.2)) (sym c.in-Running.is)
    (ok-too _ _ c.step_running.result may.settled (c.step_running.ensures.goes own uses may.shares on.0 on.1))

pub returns-in_ok-seat-in-Waiting-clause-goes : goal.returns-in_ok-seat-in-Waiting-clause-goes
returns-in_ok-seat-in-Waiting-clause-goes c = λ own may.
    let d = own.dealing in
    let bare = subst (λ (x : Place). IsGoing c.args.desk.now d c.args.i (uses_of c.args.table.now) (leaf_at c.args.trustees) x) c.in-Waiting.is may.going in (
      c.lease.ensures.settled may.settled bare,
      subst (λ (x : Place). Steps c.args.desk.now d c.args.i (world (uses_of c.args.table.now) c.args.trustees) (world (uses_of c.lease.new.table) c.args.trustees) x
          c.in_ok-seat-in-Waiting.seat (record { put = 0; granted = 0; cut = 0 })) (sym c.in-Waiting.is)
          (c.in_ok-seat-in-Waiting.ensures.goes own c.args.trustees may.shares may.settled may.free bare),
    )

pub returns-in-Signed-clause-goes : goal.returns-in-Signed-clause-goes
returns-in-Signed-clause-goes c = λ own may.
    (may.settled, has-ended c.args.desk.now own.dealing c.args.i (uses_of c.args.table.now) c.args.trustees c.args.seat (Signed c.in-Signed.leaf) c.in-Signed.is tt may.going may.shares)

pub returns-in-Refused-clause-goes : goal.returns-in-Refused-clause-goes
returns-in-Refused-clause-goes c = λ own may.
    (may.settled, has-ended c.args.desk.now own.dealing c.args.i (uses_of c.args.table.now) c.args.trustees c.args.seat Refused c.in-Refused.is tt may.going may.shares)

pub returns-in-Running-clause-openings : goal.returns-in-Running-clause-openings
returns-in-Running-clause-openings c = λ own count inside different may before.
    let on = subst (λ (x : Place). IsGoing c.args.desk.now own.dealing c.args.i (uses_of c.args.table.now) (leaf_at c.args.trustees) x) c.in-Running.is may.going in
    c.step_running.ensures.openings own (uses_of c.args.table.now) count inside different may.shares on.0 on.1 before.own

pub returns-in_ok-seat-in-Waiting-clause-openings : goal.returns-in_ok-seat-in-Waiting-clause-openings
returns-in_ok-seat-in-Waiting-clause-openings c = λ own count inside different may before.
    record { own = before.own; keeps = before.keeps; some = λ has. absurd (c.in_ok-seat-in-Waiting.ensures.unsigned has) }

pub returns-in-Running-clause-to : goal.returns-in-Running-clause-to
returns-in-Running-clause-to c = c.step_running.ensures.to

pub returns-in_ok-seat-in-Waiting-clause-to : goal.returns-in_ok-seat-in-Waiting-clause-to
returns-in_ok-seat-in-Waiting-clause-to c = record { fits = c.in_ok-seat-in-Waiting.ensures.fits; bound = none-asked 1; cut = refl }

pub returns-in-Signed-clause-to : goal.returns-in-Signed-clause-to
returns-in-Signed-clause-to c = record { fits = tt; bound = none-asked 1; cut = refl }

pub returns-in-Refused-clause-to : goal.returns-in-Refused-clause-to
returns-in-Refused-clause-to c = record { fits = tt; bound = none-asked 1; cut = refl }

pub lease-requires-clause-table : goal.lease-requires-clause-table
lease-requires-clause-table c = c.requires.table

pub returns-in-Running-clause-table : goal.returns-in-Running-clause-table
returns-in-Running-clause-table c = c.requires.table

pub returns-in-Signed-clause-table : goal.returns-in-Signed-clause-table
returns-in-Signed-clause-table c = c.requires.table

pub returns-in-Refused-clause-table : goal.returns-in-Refused-clause-table
returns-in-Refused-clause-table c = c.requires.table

pub returns-in_ok-seat-in-Waiting-clause-table : goal.returns-in_ok-seat-in-Waiting-clause-table
returns-in_ok-seat-in-Waiting-clause-table c = c.lease.ensures.table

pub returns-in_err-seat-in-Waiting-clause-table : goal.returns-in_err-seat-in-Waiting-clause-table
returns-in_err-seat-in-Waiting-clause-table c = c.lease.ensures.table

pub returns-in_err-seat-in-Waiting-clause-goes : goal.returns-in_err-seat-in-Waiting-clause-goes
returns-in_err-seat-in-Waiting-clause-goes c = λ own may. rw (err_from_is_err_and c.from_residual.result c.from_residual.ensures.1).1 tt

pub returns-in_err-seat-in-Waiting-clause-openings : goal.returns-in_err-seat-in-Waiting-clause-openings
returns-in_err-seat-in-Waiting-clause-openings c = λ own count inside different may before. rw (err_from_is_err_and c.from_residual.result c.from_residual.ensures.1).1 tt

pub returns-in_err-seat-in-Waiting-clause-to : goal.returns-in_err-seat-in-Waiting-clause-to
returns-in_err-seat-in-Waiting-clause-to c = rw (err_from_is_err_and c.from_residual.result c.from_residual.ensures.1).1 tt

pub step_running-requires : goal.step_running-requires
step_running-requires c = record { of = rw c.in-Running.is at c.requires.fits }

pub returns-in-Signed-clause-openings : goal.returns-in-Signed-clause-openings
returns-in-Signed-clause-openings c = λ own count inside different may before. rw c.in-Signed.is at before

pub returns-in-Refused-clause-openings : goal.returns-in-Refused-clause-openings
returns-in-Refused-clause-openings c = λ own count inside different may before. rw c.in-Refused.is at before
