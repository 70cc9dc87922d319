use Rattle.leaf_table.proofs.Held.{holds}
use Rattle.leaf_table.proofs.table.Table.end.Goals as goal

pub returns-clause-holds : goal.returns-clause-holds
returns-clause-holds g c = holds c.args.self
