-- A tree with all its nodes, as they stand one after the other from node 1 on.
use Rattle.std.specs.Prelude.{◌≡◌, ℕ, ◌+◌, ◌-◌, ◌*◌, ◌^◌, ◌≤◌, List, length}
use Rattle.lms_bytes.specs.Bytes.{bytes_at, joined}
use Rattle.lms_bytes.specs.HashLength.{IsHashLength}
use Rattle.lms_bytes.specs.declared.params.Params.{Params}
use Rattle.merkle_path.specs.Nodes.{node, sibling}

-- nodes of n bytes, in a tree of height h: T[1] || T[2] || .. || T[2^(h+1) - 1]
pub record TreeNodes : Type 0 where
  pub n : ℕ
  pub h : ℕ
  pub nodes : List ℕ

-- what is true of each tree
pub record IsWhole (tree : TreeNodes) : Type 0 where
  pub hash_length : IsHashLength tree.n
  pub height : tree.h ≤ 20
  pub size : length tree.nodes ≡ tree.n * (2 ^ (tree.h + 1) - 1)

-- T[r]
abbrev pub node_at : TreeNodes → ℕ → List ℕ
node_at tree r = bytes_at tree.nodes (tree.n * (r - 1)) tree.n

-- path[level] of leaf q (RFC 8554 section 5.4)
abbrev pub path_node_at : TreeNodes → ℕ → ℕ → List ℕ
path_node_at tree q level = node_at tree (sibling tree.h q level)

-- path[0] || path[1] || .. || path[h - 1] of leaf q
abbrev pub path_at : TreeNodes → ℕ → List ℕ
path_at tree q = joined (path_node_at tree q) tree.h

-- the nodes that are this far from the root, of which there are 2^depth
abbrev pub row : Params → List ℕ → (ℕ → List ℕ) → ℕ → List ℕ
row params id key depth = joined (λ i. node params id key (params.h - depth) (2 ^ depth + i)) (2 ^ depth)

-- the tree over leaves with these public values (RFC 8554 section 5.3)
abbrev pub tree_of : Params → List ℕ → (ℕ → List ℕ) → TreeNodes
tree_of params id key = record { n = params.n; h = params.h; nodes = joined (row params id key) (params.h + 1) }
