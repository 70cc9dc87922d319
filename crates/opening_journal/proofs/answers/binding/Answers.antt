use Rattle.opening_journal.specs.Opening.{bound, opened}
use Rattle.opening_journal.proofs.Answered.{binds-as}
use Rattle.opening_journal.proofs.answers.binding.Goals as goal

pub returns-in-Half : goal.returns-in-Half
returns-in-Half c = rw c.in-Half.is (binds-as _ c.args.message.now _ c.old_if_same.result bound c.old_if_same.ensures)

pub returns-in-Full : goal.returns-in-Full
returns-in-Full c = rw c.in-Full.is (binds-as _ c.args.message.now _ c.old_if_same-in-Full.result (opened _ _ _) c.old_if_same-in-Full.ensures)
