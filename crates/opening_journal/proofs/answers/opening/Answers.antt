use Rattle.std.proofs.Common.{Err, subst, sym}
use Rattle.opening_journal.specs.Answers.{OpensAs}
use Rattle.opening_journal.specs.Entries.{state_of_slot}
use Rattle.opening_journal.specs.Opening.{bound, opened}
use Rattle.opening_journal.proofs.Answered.{is-old, opens-pair, opens-spent}
use Rattle.slot_file.specs.declared.slot.Slot.{Slot}
use Rattle.opening_journal.proofs.answers.opening.Goals as goal

pub returns-in-Err : goal.returns-in-Err
returns-in-Err c =
    subst (λ (s : Slot). OpensAs c.args.message.now c.args.c.now c.args.digest.now (state_of_slot c.args.n s) (Err c.in-Err.fault)) (sym c.in-Half.is)
    (opens-spent _ c.args.message.now c.args.c.now c.args.digest.now _ c.in-Err.fault bound c.in-Err.ensures)

pub returns-in-Ok-old_if_same : goal.returns-in-Ok-old_if_same
returns-in-Ok-old_if_same c =
    rw c.in-Full.is (opens-pair c.args.n _ _ _ c.args.message.now c.args.c.now c.args.digest.now c.old_if_equal.result (is-old _ c.args.message.now _ c.in-Ok-old_if_same.ensures) c.old_if_equal.ensures)

pub returns-in-Err-old_if_same : goal.returns-in-Err-old_if_same
returns-in-Err-old_if_same c =
    subst (λ (s : Slot). OpensAs c.args.message.now c.args.c.now c.args.digest.now (state_of_slot c.args.n s) (Err c.in-Err-old_if_same.fault)) (sym c.in-Full.is)
    (opens-spent _ c.args.message.now c.args.c.now c.args.digest.now _ c.in-Err-old_if_same.fault (opened _ _ _) c.in-Err-old_if_same.ensures)
