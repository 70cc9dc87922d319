use Rattle.std.proofs.Common.{◌∙◌, subst, sym, true≢false}
use Rattle.trustee_core.proofs.Approvals.{decided-is, denied-never}
use Rattle.trustee_core.specs.Approvals.{decided, denied}
use Rattle.trustee_core.specs.Decisions.{Answer, Granted, Refused}
use Rattle.trustee_core.specs.Notes.{Notes}
use Rattle.trustee_core.specs.Trustee.{notes_of}
use Rattle.trustee_core.proofs.approval.decide_approved.Goals as goal

pub returns-then-is_denied-clause-event : goal.returns-then-is_denied-clause-event
returns-then-is_denied-clause-event g c = denied (c.is_denied.ensures.0 c.if-is_denied.true)

pub returns-in-Ok-clause-event : goal.returns-in-Ok-clause-event
returns-in-Ok-clause-event g c =
    decided _ _ (λ is. true≢false (sym (c.is_denied.ensures.1 is) ∙ c.if-is_denied.false)) c.in-Ok.ensures.event

pub returns-in-Err-clause-event : goal.returns-in-Err-clause-event
returns-in-Err-clause-event g c =
    decided _ _ (λ is. true≢false (sym (c.is_denied.ensures.1 is) ∙ c.if-is_denied.false)) c.in-Err.ensures.event

pub returns-then-is_denied-clause-notes : goal.returns-then-is_denied-clause-notes
returns-then-is_denied-clause-notes g c = λ answer is. absurd (denied-never _ answer is)

pub returns-in-Ok-clause-notes : goal.returns-in-Ok-clause-notes
returns-in-Ok-clause-notes g c = λ answer is.
    let same = decided-is Granted answer is in
    subst (λ (a : Answer). Notes c.args.ask.now c.args.moment a (notes_of c.args.trustee.now) (notes_of c.decide.new.self)) same c.in-Ok.ensures.notes

pub returns-in-Err-clause-notes : goal.returns-in-Err-clause-notes
returns-in-Err-clause-notes g c = λ answer is.
    let same = decided-is (Refused c.in-Err.why) answer is in
    subst (λ (a : Answer). Notes c.args.ask.now c.args.moment a (notes_of c.args.trustee.now) (notes_of c.decide.new.self)) same c.in-Err.ensures.notes
