use Rattle.std.proofs.Common.{[], slice_index_or}
use Rattle.merkle_path.proofs.Rows.{HasNodes}
use Rattle.merkle_path.proofs.tree.fill_nodes.Given as goal

abbrev pub invariant-nodes : goal.invariant-nodes
invariant-nodes l = HasNodes l.params l.id (λ q. slice_index_or l.keys q []) l.nodes l.r
