-- The nodes of a tree, found again where they stand.
use Rattle.std.proofs.Common.{◌≡◌, ℕ, zero, suc, ◌+◌, ◌-◌, ◌*◌, ◌^◌, ◌<◌, ◌≤◌, List, length, take, drop, refl, sym, ◌∙◌, arith, length-append, add-one}
use Rattle.std.proofs.lemmas.List.{drop-drop, drop-take, take-take}
use Rattle.std.proofs.lemmas.Nat.{pow_pos}
use Rattle.lms_bytes.specs.Bytes.{bytes_at, joined}
use Rattle.lms_bytes.specs.declared.params.Params.{Params}
use Rattle.merkle_path.specs.Nodes.{node, path, sibling}
use Rattle.merkle_path.specs.Tree.{row, tree_of, node_at, path_at, path_node_at}
use Rattle.lms_bytes.proofs.Joined.{joined-at, joined-lies, joined-same, joined-none, joined-more, length-joined, row-fits}
use Rattle.merkle_path.proofs.Lengths.{length-node}
use Rattle.merkle_path.proofs.Rows.{double, place_in, place_row}
use Rattle.merkle_path.proofs.Siblings.{sibling_in_row}

-- a part of a part
part_of_part : (s : List ℕ) (a b m n : ℕ) → b + n ≤ m → bytes_at (bytes_at s a m) b n ≡ bytes_at s (a + b) n
part_of_part s a b m n inside =
    let whole : b + (m - b) ≡ m = omega arith in
    let front : drop b (take m (drop a s)) ≡ take (m - b) (drop b (drop a s)) = rw whole at (drop-take b (m - b) (drop a s)) in
    rw (front, take-take n (m - b) (drop b (drop a s)) (omega arith), drop-drop) refl

length-row : (params : Params) (id : List ℕ) (key : ℕ → List ℕ) (depth : ℕ) → length (row params id key depth) ≡ params.n * 2 ^ depth
length-row params id key depth = length-joined _ params.n (2 ^ depth) (λ i _. length-node params id key (params.h - depth) (2 ^ depth + i))

length-rows : (params : Params) (id : List ℕ) (key : ℕ → List ℕ) (depth : ℕ) → length (joined (row params id key) depth) ≡ params.n * (2 ^ depth - 1)
length-rows params id key zero =
    let none : params.n * (2 ^ 0 - 1) ≡ 0 = omega arith in
    rw (none, joined-none) refl
length-rows params id key (suc depth) =
    let front = length-rows params id key depth in
    let last = length-row params id key depth in
    rw (← add-one depth, joined-more (row params id key) depth, place_row params.n depth)
    (omega (arith, length-append (joined (row params id key) depth) (row params id key depth)))

pub size-tree_of : (params : Params) (id : List ℕ) (key : ℕ → List ℕ) → length (tree_of params id key).nodes ≡ params.n * (2 ^ (params.h + 1) - 1)
size-tree_of params id key = length-rows params id key (params.h + 1)

node_in_row : (params : Params) (id : List ℕ) (key : ℕ → List ℕ) (depth i : ℕ) → depth ≤ params.h → i < 2 ^ depth
    → node_at (tree_of params id key) (2 ^ depth + i) ≡ node params id key (params.h - depth) (2 ^ depth + i)
node_in_row params id key depth i h inside =
    let rows = joined (row params id key) (params.h + 1) in
    let level = params.h - depth in
    let this_row = joined-lies (row params id key) (params.h + 1) depth (params.n * (2 ^ depth - 1)) (params.n * 2 ^ depth) (omega arith)
    (sym (length-rows params id key depth)) (sym (length-row params id key depth)) in
    let this_node = joined-at (λ k. node params id key level (2 ^ depth + k)) params.n (2 ^ depth) i
    (λ k _. length-node params id key level (2 ^ depth + k)) inside in
    let fits = row-fits params.n i (2 ^ depth) inside in
    let found = part_of_part rows (params.n * (2 ^ depth - 1)) (params.n * i) (params.n * 2 ^ depth) params.n fits in
    rw (← place_in params.n (2 ^ depth) i (pow_pos depth)) (sym found ∙ rw this_row this_node)

pub node_at-tree_of : (params : Params) (id : List ℕ) (key : ℕ → List ℕ) (level r : ℕ) → level ≤ params.h → 2 ^ (params.h - level) ≤ r
    → r < 2 ^ (params.h - level + 1) → node_at (tree_of params id key) r ≡ node params id key level r
node_at-tree_of params id key level r h low high =
    let depth = params.h - level in
    let back : params.h - depth ≡ level = omega arith in
    let number : 2 ^ depth + (r - 2 ^ depth) ≡ r = omega arith in
    let twice = double depth in
    rw (number, back) at (node_in_row params id key depth (r - 2 ^ depth) (omega arith) (omega arith))

pub path_node_at-tree_of : (params : Params) (id : List ℕ) (key : ℕ → List ℕ) (q level : ℕ) → q < 2 ^ params.h → level < params.h
    → path_node_at (tree_of params id key) q level ≡ node params id key level (sibling params.h q level)
path_node_at-tree_of params id key q level leaf below =
    let row = sibling_in_row params.h q level leaf below in
    node_at-tree_of params id key level (sibling params.h q level) (omega arith) row.0 row.1

pub path_at-tree_of : (params : Params) (id : List ℕ) (key : ℕ → List ℕ) (q : ℕ) → q < 2 ^ params.h
    → path_at (tree_of params id key) q ≡ path params id key q
path_at-tree_of params id key q leaf =
    joined-same (path_node_at (tree_of params id key) q) (λ level. node params id key level (sibling params.h q level)) params.h
    (λ level below. path_node_at-tree_of params id key q level leaf below)
