-- From a leaf along its path to the root.
use Rattle.std.proofs.Common.{◌≡◌, ℕ, zero, suc, ◌+◌, ◌-◌, ◌*◌, ◌/◌, ◌%◌, ◌^◌, ◌<◌, ◌≤◌, ◌==◌, true, false, List, refl, ap, ◌∙◌, inl, inr, add-one, arith}
use Rattle.std.specs.Int.Bits.{bit_xor}
use Rattle.std.proofs.lemmas.Bool.{cases_lt}
use Rattle.std.proofs.lemmas.Bool.Decides.{nat_tests}
use Rattle.std.proofs.Math.Nat.{div-eq_of_lt-le}
use Rattle.lms_bytes.specs.Bytes.{bytes_at}
use Rattle.lms_bytes.specs.declared.params.Params.{Params}
use Rattle.merkle_path.specs.Nodes.{node, parent_node, path, root, sibling, candidate_node, candidate_root}
use Rattle.merkle_path.proofs.Levels.{halved, candidate_leaf, candidate_above}
use Rattle.lms_bytes.proofs.Joined.{joined-at}
use Rattle.merkle_path.proofs.Lengths.{length-node}
use Rattle.merkle_path.proofs.Siblings.{sibling_is}

-- two nodes beside each other give the one above
parent_node-node : (params : Params) (id : List ℕ) (key : ℕ → List ℕ) (level r : ℕ)
    → parent_node params id r (node params id key level r) (node params id key level (bit_xor r 1)) ≡ node params id key (suc level) (r / 2)
unfolding node
parent_node-node params id key level r =
    let other = sibling_is r in
    elim (cases_lt (r % 2) 1) [
      | inl even ↦
          let test : r % 2 == 0 ≡ true = grind (arith, nat_tests) in
          let left : 2 * (r / 2) ≡ r = omega arith in
          let right : bit_xor r 1 ≡ r + 1 = omega arith in
          rw (test, right, left) refl
      | inr odd ↦
          let test : r % 2 == 0 ≡ false = grind (arith, nat_tests) in
          let left : bit_xor r 1 ≡ 2 * (r / 2) = omega arith in
          let right : 2 * (r / 2) + 1 ≡ r = omega arith in
          rw (test, left, right) refl
    ]

path_part : (params : Params) (id : List ℕ) (key : ℕ → List ℕ) (q level : ℕ) → level < params.h
    → bytes_at (path params id key q) (params.n * level) params.n ≡ node params id key level (sibling params.h q level)
path_part params id key q level below =
    joined-at (λ k. node params id key k (sibling params.h q k)) params.n params.h level
    (λ k _. length-node params id key k (sibling params.h q k)) below

at_leaf : (params : Params) (id : List ℕ) (key : ℕ → List ℕ) (q : ℕ)
    → candidate_node params id q (key q) (path params id key q) 0 ≡ node params id key 0 ((2 ^ params.h + q) / 2 ^ 0)
unfolding node
at_leaf params id key q =
    let place : (2 ^ params.h + q) / 2 ^ 0 ≡ 2 ^ params.h + q = omega arith in
    let leaf : 2 ^ params.h + q - 2 ^ params.h ≡ q = omega arith in
    rw (candidate_leaf params id q (key q) (path params id key q), place, leaf) refl

-- each candidate on the way is the node
climb : (params : Params) (id : List ℕ) (key : ℕ → List ℕ) (q level : ℕ) → level ≤ params.h
    → candidate_node params id q (key q) (path params id key q) level ≡ node params id key level ((2 ^ params.h + q) / 2 ^ level)
climb params id key q zero h = at_leaf params id key q
climb params id key q (suc level) h =
    let below = climb params id key q level (omega arith) in
    let beside = path_part params id key q level (omega arith) in
    let above = candidate_above params id q (key q) (path params id key q) level in
    let pair = parent_node-node params id key level ((2 ^ params.h + q) / 2 ^ level) in
    let up = halved (2 ^ params.h + q) level in
    rw (← add-one level, ← up) (rw (below, beside) at above ∙ rw (← add-one level) at pair)

pub candidate_root-path : (params : Params) (id : List ℕ) (key : ℕ → List ℕ) (q : ℕ) → q < 2 ^ params.h
    → candidate_root params id q (key q) (path params id key q) ≡ root params id key
candidate_root-path params id key q leaf =
    let top : (2 ^ params.h + q) / 2 ^ params.h ≡ 1 = div-eq_of_lt-le {k = 1} (2 ^ params.h) {m = 2 ^ params.h + q} (omega arith) (omega arith) in
    climb params id key q params.h (omega arith) ∙ ap (node params id key params.h) top
