-- A tree that is filled from its last node on.
use Rattle.std.proofs.Common.{◌≡◌, ℕ, zero, suc, ◌+◌, ◌-◌, ◌*◌, ◌^◌, ◌<◌, ◌≤◌, List, length, take, drop, refl, sym, ap, ◌∙◌, inl, inr, arith, add-one}
use Rattle.std.proofs.lemmas.Bool.{cases_lt}
use Rattle.std.proofs.lemmas.List.{take_all}
use Rattle.std.proofs.lemmas.Nat.{pow_pos}
use Rattle.std.proofs.Math.Nat.{mul-add, mul-suc, pow-suc, pow-le-pow_right, mul-le-mul_left}
use Rattle.std.proofs.Math.Seq.{take-add}
use Rattle.lms_bytes.specs.Bytes.{bytes_at, joined}
use Rattle.lms_bytes.specs.declared.params.Params.{Params}
use Rattle.lms_bytes.proofs.Parts.{deeper}
use Rattle.merkle_path.specs.Nodes.{node, leaf_node, inner_node}
use Rattle.merkle_path.specs.Tree.{row, tree_of}
use Rattle.lms_bytes.proofs.Joined.{joined-parts, joined-none, joined-more}

-- the nodes from node r on are in place
pub record HasNodes (params : Params) (id : List ℕ) (key : ℕ → List ℕ) (nodes : List ℕ) (r : ℕ) : Type 0 where
  pub node_is : (level s : ℕ) → level ≤ params.h → 2 ^ (params.h - level) ≤ s → s < 2 ^ (params.h - level + 1) → r ≤ s
      → bytes_at nodes (params.n * (s - 1)) params.n ≡ node params id key level s

pub double : (k : ℕ) → 2 ^ (k + 1) ≡ 2 * 2 ^ k
double k = rw (add-one k, pow-suc 2 k) (omega arith)

pub grown : (a b : ℕ) → a ≤ b → 2 ^ a ≤ 2 ^ b
grown a b h = pow-le-pow_right (omega arith) h

place_next : (n r : ℕ) → 1 ≤ r → n * (r - 1) + n ≡ n * r
place_next n r h = let k : suc (r - 1) ≡ r = omega arith in rw (← mul-suc n (r - 1), k) refl

place_below : (n r s : ℕ) → 1 ≤ r → r < s → n * (r - 1) + n ≤ n * (s - 1)
place_below n r s h less =
    let most : n * r ≤ n * (s - 1) = mul-le-mul_left n (omega arith) in
    rw (place_next n r h) most

pub place_in : (n a i : ℕ) → 1 ≤ a → n * (a - 1) + n * i ≡ n * (a + i - 1)
place_in n a i h = let k : a + i - 1 ≡ a - 1 + i = omega arith in rw k (sym (mul-add n (a - 1) i))

pub place_row : (n depth : ℕ) → n * (2 ^ (depth + 1) - 1) ≡ n * (2 ^ depth - 1) + n * 2 ^ depth
place_row n depth =
    let some = pow_pos depth in
    let next = double depth in
    let k : 2 ^ (depth + 1) - 1 ≡ 2 ^ depth - 1 + 2 ^ depth = omega arith in
    rw k (mul-add n (2 ^ depth - 1) (2 ^ depth))

pub no_nodes : (params : Params) (id : List ℕ) (key : ℕ → List ℕ) (nodes : List ℕ) (r : ℕ) → 2 ^ (params.h + 1) ≤ r → HasNodes params id key nodes r
no_nodes params id key nodes r past = record {
  node_is = λ level s h low high from.
      let within = grown (params.h - level + 1) (params.h + 1) (omega arith) in
      absurd (omega arith);
}

-- node r, with the nodes below it in place
pub record IsNode (params : Params) (id : List ℕ) (key : ℕ → List ℕ) (nodes : List ℕ) (r : ℕ) (value : List ℕ) : Type 0 where
  pub leaf : 2 ^ params.h ≤ r → value ≡ leaf_node params id r (key (r - 2 ^ params.h))
  pub inner : r < 2 ^ params.h → value ≡ inner_node params id r (bytes_at nodes (params.n * (2 * r - 1)) params.n) (bytes_at nodes (params.n * (2 * r)) params.n)

node_here : (params : Params) (id : List ℕ) (key : ℕ → List ℕ) (nodes : List ℕ) (r : ℕ) (value : List ℕ) → HasNodes params id key nodes (r + 1)
    → IsNode params id key nodes r value → 1 ≤ r → (level : ℕ) → level ≤ params.h → 2 ^ (params.h - level) ≤ r → r < 2 ^ (params.h - level + 1)
    → value ≡ node params id key level r
unfolding node
node_here params id key nodes r value below here first zero h low high =
    let none : params.h - 0 ≡ params.h = omega arith in
    here.leaf (rw none at low)
node_here params id key nodes r value below here first (suc level) h low high =
    let up : params.h - level ≡ params.h - suc level + 1 = omega arith in
    let twice = double (params.h - suc level) in
    let four = double (params.h - level) in
    let inside = grown (params.h - suc level + 1) params.h (omega arith) in
    let same = ap (λ k. 2 ^ k) up in
    let left = below.node_is level (2 * r) (omega arith) (omega arith) (omega arith) (omega arith) in
    let right = below.node_is level (2 * r + 1) (omega arith) (omega arith) (omega arith) (omega arith) in
    let at : 2 * r + 1 - 1 ≡ 2 * r = omega arith in
    rw (← left, ← right, at) (here.inner (omega arith))

-- node r is written below the nodes that are in place
pub more_nodes : (params : Params) (id : List ℕ) (key : ℕ → List ℕ) (old new : List ℕ) (r : ℕ) (value : List ℕ) → HasNodes params id key old (r + 1)
    → IsNode params id key old r value → 1 ≤ r → bytes_at new (params.n * (r - 1)) params.n ≡ value
    → drop (params.n * (r - 1) + params.n) new ≡ drop (params.n * (r - 1) + params.n) old → HasNodes params id key new r
more_nodes params id key old new r value below here first written after = record {
  node_is = λ level s h low high from. elim (cases_lt r s) [
    | inl later ↦
        ap (take params.n) (deeper new old (params.n * (r - 1) + params.n) (params.n * (s - 1)) after (place_below params.n r s first later)) ∙ below.node_is level s h low high (omega arith)
    | inr same ↦
        let this : s ≡ r = omega arith in
        rw this (written ∙ node_here params id key old r value below here first level h (omega arith) (omega arith))
  ];
}

whole_row : (params : Params) (id : List ℕ) (key : ℕ → List ℕ) (nodes : List ℕ) → HasNodes params id key nodes 1 → (depth : ℕ) → depth ≤ params.h
    → bytes_at nodes (params.n * (2 ^ depth - 1)) (params.n * 2 ^ depth) ≡ row params id key depth
whole_row params id key nodes all depth h =
    let level : params.h - (params.h - depth) ≡ depth = omega arith in
    let some = pow_pos depth in
    let next = double depth in
    joined-parts _ params.n (params.n * (2 ^ depth - 1)) (2 ^ depth) nodes (λ i inside.
    rw (place_in params.n (2 ^ depth) i some) (all.node_is (params.h - depth) (2 ^ depth + i) (omega arith) (rw level (omega arith)) (rw level (omega arith)) (omega arith)))

rows_to : (params : Params) (id : List ℕ) (key : ℕ → List ℕ) (nodes : List ℕ) → HasNodes params id key nodes 1 → (depth : ℕ) → depth ≤ params.h + 1
    → take (params.n * (2 ^ depth - 1)) nodes ≡ joined (row params id key) depth
rows_to params id key nodes all zero h =
    let none : params.n * (2 ^ 0 - 1) ≡ 0 = omega arith in
    rw (none, joined-none) refl
rows_to params id key nodes all (suc depth) h =
    let front = rows_to params id key nodes all depth (omega arith) in
    let last = whole_row params id key nodes all depth (omega arith) in
    rw (← add-one depth, place_row params.n depth, take-add (params.n * (2 ^ depth - 1)) (params.n * 2 ^ depth) nodes, front, last) (sym (joined-more (row params id key) depth))

-- all nodes are in place
pub all_nodes : (params : Params) (id : List ℕ) (key : ℕ → List ℕ) (nodes : List ℕ) → HasNodes params id key nodes 1
    → length nodes ≡ params.n * (2 ^ (params.h + 1) - 1) → nodes ≡ (tree_of params id key).nodes
all_nodes params id key nodes all size =
    sym (take_all (params.n * (2 ^ (params.h + 1) - 1)) nodes (omega arith)) ∙ rows_to params id key nodes all (params.h + 1) (omega arith)
