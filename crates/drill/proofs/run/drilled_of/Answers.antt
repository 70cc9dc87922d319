use Rattle.std.proofs.Common.{refl}
use Rattle.drill.proofs.Held.{has-table}
use Rattle.drill.proofs.run.drilled_of.Goals as goal

pub returns-clause-table : goal.returns-clause-table
returns-clause-table c = λ settled height. rw c.end-2.ensures.disk (has-table c.args.drill.table _ settled height (c.end-2.ensures.holds.reads refl))
