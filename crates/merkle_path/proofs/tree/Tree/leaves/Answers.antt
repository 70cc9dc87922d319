use Rattle.std.proofs.Common.{arith}
use Rattle.merkle_path.proofs.Rows.{grown}
use Rattle.merkle_path.proofs.tree.Tree.leaves.Goals as goal

pub returns-clause-bound : goal.returns-clause-bound
returns-clause-bound c = omega (arith, grown c.self.inside.h 20 c.self.invariant.1.height)
