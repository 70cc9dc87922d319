use Rattle.leaf_table.proofs.Once.{once}
use Rattle.leaf_table.proofs.Running.{run-grows, run-keeps}
use Rattle.leaf_table.proofs.laws.one_lease.Goals as goal

pub returns-clause-keeps : goal.returns-clause-keeps
returns-clause-keeps c = run-keeps

pub returns-clause-grows : goal.returns-clause-grows
returns-clause-grows c = run-grows

pub returns-clause-once : goal.returns-clause-once
returns-clause-once c = once
