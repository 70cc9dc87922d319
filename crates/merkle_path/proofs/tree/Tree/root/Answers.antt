use Rattle.std.proofs.Common.{arith}
use Rattle.std.proofs.lemmas.Nat.{pow_pos}
use Rattle.merkle_path.proofs.Rows.{double}
use Rattle.merkle_path.proofs.tree.Tree.root.Goals as goal

pub node-requires-clause-last : goal.node-requires-clause-last
node-requires-clause-last c = omega (arith, double c.args.self.now.h, pow_pos c.args.self.now.h)
