use Rattle.merkle_path.proofs.Trees.{size-tree_of, node_at-tree_of, path_node_at-tree_of, path_at-tree_of}
use Rattle.merkle_path.proofs.laws.nodes_of_tree.Goals as goal

pub returns-clause-size : goal.returns-clause-size
returns-clause-size c = size-tree_of

pub returns-clause-node : goal.returns-clause-node
returns-clause-node c = node_at-tree_of

pub returns-clause-path_node : goal.returns-clause-path_node
returns-clause-path_node c = path_node_at-tree_of

pub returns-clause-path : goal.returns-clause-path
returns-clause-path c = path_at-tree_of
