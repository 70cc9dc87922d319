-- One level up.
use Rattle.std.proofs.Common.{◌≡◌, ℕ, ◌+◌, ◌*◌, ◌/◌, ◌^◌, List, refl, add-one}
use Rattle.std.proofs.Math.Nat.{pow-suc, div-div-eq-div-mul}
use Rattle.lms_bytes.specs.Bytes.{bytes_at}
use Rattle.lms_bytes.specs.declared.params.Params.{Params}
use Rattle.merkle_path.specs.Nodes.{candidate_node, parent_node, leaf_node}

pub halved : (x level : ℕ) → x / 2 ^ level / 2 ≡ x / 2 ^ (level + 1)
halved x level = rw (add-one level, pow-suc 2 level) (div-div-eq-div-mul x (2 ^ level) 2)

pub candidate_leaf : (params : Params) (id : List ℕ) (q : ℕ) (key path : List ℕ)
    → candidate_node params id q key path 0 ≡ leaf_node params id (2 ^ params.h + q) key
unfolding candidate_node
candidate_leaf params id q key path = refl

pub candidate_above : (params : Params) (id : List ℕ) (q : ℕ) (key path : List ℕ) (level : ℕ)
    → candidate_node params id q key path (level + 1) ≡ parent_node params id ((2 ^ params.h + q) / 2 ^ level)
    (candidate_node params id q key path level) (bytes_at path (params.n * level) params.n)
unfolding candidate_node
candidate_above params id q key path level = rw (add-one level) refl
