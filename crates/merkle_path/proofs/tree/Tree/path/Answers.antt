use Rattle.merkle_path.proofs.Siblings.{sibling-ge, sibling-lt}
use Rattle.merkle_path.proofs.tree.Tree.path.Goals as goal

pub node-requires-clause-first : goal.node-requires-clause-first
node-requires-clause-first c = rw c.leaves.ensures.number (sibling-ge c.args.self.now.h c.args.q c.args.level c.requires.level)

pub node-requires-clause-last : goal.node-requires-clause-last
node-requires-clause-last c = rw c.leaves.ensures.number (sibling-lt c.args.self.now.h c.args.q c.args.level c.requires.leaf)
