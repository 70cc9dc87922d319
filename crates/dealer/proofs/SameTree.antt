-- The tree depends on the public values of its leaves alone.
use Rattle.std.proofs.Common.{◌≡◌, ℕ, zero, suc, ◌+◌, ◌-◌, ◌*◌, ◌^◌, ◌<◌, ◌≤◌, List, refl, ap, arith}
use Rattle.lms_bytes.specs.declared.params.Params.{Params}
use Rattle.merkle_path.specs.Nodes.{node, leaf_node}
use Rattle.merkle_path.specs.Tree.{TreeNodes, row, tree_of}
use Rattle.lms_bytes.proofs.Joined.{joined-same}
use Rattle.merkle_path.proofs.Rows.{double}

-- the leaves have the same public values
pub record SameLeaves (params : Params) (key other : ℕ → List ℕ) : Type 0 where
  pub leaf : (q : ℕ) → q < 2 ^ params.h → key q ≡ other q

same_node : (params : Params) (id : List ℕ) (key other : ℕ → List ℕ) → SameLeaves params key other → (level r : ℕ) → level ≤ params.h
    → 2 ^ (params.h - level) ≤ r → r < 2 ^ (params.h - level + 1) → node params id key level r ≡ node params id other level r
unfolding node
same_node params id key other same zero r h low high =
    let none : params.h - 0 ≡ params.h = omega arith in
    let twice = double params.h in
    let least = rw none at low in
    let most = rw none at high in
    let leaf = same.leaf (r - 2 ^ params.h) (omega arith) in
    ap (leaf_node params id r) leaf
same_node params id key other same (suc level) r h low high =
    let up : params.h - level ≡ params.h - suc level + 1 = omega arith in
    let power = ap (λ k. 2 ^ k) up in
    let twice = double (params.h - suc level) in
    let four = double (params.h - level) in
    let left = same_node params id key other same level (2 * r) (omega arith) (omega arith) (omega arith) in
    let right = same_node params id key other same level (2 * r + 1) (omega arith) (omega arith) (omega arith) in
    rw (left, right) refl

same_row : (params : Params) (id : List ℕ) (key other : ℕ → List ℕ) → SameLeaves params key other → (depth : ℕ) → depth ≤ params.h
    → row params id key depth ≡ row params id other depth
same_row params id key other same depth h =
    let level : params.h - (params.h - depth) ≡ depth = omega arith in
    let next = double depth in
    joined-same (λ i. node params id key (params.h - depth) (2 ^ depth + i)) (λ i. node params id other (params.h - depth) (2 ^ depth + i)) (2 ^ depth)
    (λ i inside. same_node params id key other same (params.h - depth) (2 ^ depth + i) (omega arith) (rw level (omega arith)) (rw level (omega arith)))

pub same_tree : (params : Params) (id : List ℕ) (key other : ℕ → List ℕ) → SameLeaves params key other → tree_of params id key ≡ tree_of params id other
same_tree params id key other same =
    let tree : List ℕ → TreeNodes = λ nodes. record { n = params.n; h = params.h; nodes = nodes } in
    ap tree (joined-same (row params id key) (row params id other) (params.h + 1) (λ depth below. same_row params id key other same depth (omega arith)))
