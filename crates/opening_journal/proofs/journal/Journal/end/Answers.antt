use Rattle.opening_journal.proofs.Held.{holds}
use Rattle.opening_journal.proofs.journal.Journal.end.Goals as goal

pub returns-clause-holds : goal.returns-clause-holds
returns-clause-holds g c = holds c.args.self
