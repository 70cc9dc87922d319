use Rattle.std.proofs.Common.{◌∙◌, ap, sym, arith}
use Rattle.session_core.specs.Judging.{seat_fault}
use Rattle.session_core.proofs.Judged.{fault-here, fault-later, fault-end}
use Rattle.session_core.proofs.session.Session.fault_among.Goals as goal

pub returns-in-Some : goal.returns-in-Some
returns-in-Some c =
    let f = seat_fault c.args.self.now c.args.digest.now in
    sym (fault-here f c.args.seats.now c.seats.i c.index-seats-i.result _ (omega arith) (ap f (sym c.index-seats-i.is) ∙ (sym c.seat_fault.ensures ∙ c.in-Some.is)))
    ∙ c.seats.invariant

pub seats-preserved : goal.seats-preserved
seats-preserved c =
    let f = seat_fault c.args.self.now c.args.digest.now in
    sym (fault-later f c.args.seats.now c.seats.i c.index-seats-i.result (omega arith) (ap f (sym c.index-seats-i.is) ∙ (sym c.seat_fault.ensures ∙ c.in_default.is)))
    ∙ c.seats.invariant

pub returns : goal.returns
returns c = sym (fault-end (seat_fault c.args.self.now c.args.digest.now) c.args.seats.now c.seats.i (omega arith)) ∙ c.seats.invariant
