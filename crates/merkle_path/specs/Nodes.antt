-- The nodes of an LMS tree. Node 1 is the root, nodes 2r and 2r + 1 are below node r, and node 2^h + q is leaf q.
use Rattle.std.specs.Prelude.{ℕ, zero, suc, ◌+◌, ◌-◌, ◌*◌, ◌/◌, ◌%◌, ◌^◌, ◌==◌, List, ◌++◌, bit_xor, if◌then◌else◌}
use Rattle.lms_bytes.specs.Bytes.{u16str, u32str, bytes_at, joined}
use Rattle.lms_bytes.specs.declared.params.Params.{Params}
use Rattle.lms_bytes.specs.Hash.{hash}

-- T[r] of a leaf with the public value K, after D_LEAF (RFC 8554 sections 5.3 and 7.1)
abbrev pub leaf_node : Params → List ℕ → ℕ → List ℕ → List ℕ
leaf_node params id r key = hash params.n (id ++ u32str r ++ u16str 0x8282 ++ key)

-- T[r] from the two nodes below it, after D_INTR (RFC 8554 sections 5.3 and 7.1)
abbrev pub inner_node : Params → List ℕ → ℕ → List ℕ → List ℕ → List ℕ
inner_node params id r left right = hash params.n (id ++ u32str r ++ u16str 0x8383 ++ left ++ right)

-- T[r], that many levels above the leaves, whose public values are key 0 to key (2^h - 1) (RFC 8554 section 5.3)
unfoldable pub node : Params → List ℕ → (ℕ → List ℕ) → ℕ → ℕ → List ℕ
node params id key zero r = leaf_node params id r (key (r - 2 ^ params.h))
node params id key (suc level) r =
    inner_node params id r (node params id key level (2 * r)) (node params id key level (2 * r + 1))

-- T[1], from the public values of the leaves (RFC 8554 section 5.3)
abbrev pub root : Params → List ℕ → (ℕ → List ℕ) → List ℕ
root params id key = node params id key params.h 1

-- the number of the node beside leaf q's ancestor that many levels above the leaves (RFC 8554 section 5.4)
abbrev pub sibling : ℕ → ℕ → ℕ → ℕ
sibling h q level = bit_xor ((2 ^ h + q) / 2 ^ level) 1

-- path[0] || path[1] || .. || path[h - 1] of leaf q (RFC 8554 section 5.4)
abbrev pub path : Params → List ℕ → (ℕ → List ℕ) → ℕ → List ℕ
path params id key q = joined (λ level. node params id key level (sibling params.h q level)) params.h

-- the parent of node r and its sibling, the even one on the left
abbrev pub parent_node : Params → List ℕ → ℕ → List ℕ → List ℕ → List ℕ
parent_node params id r value sibling =
    if r % 2 == 0 then inner_node params id (r / 2) value sibling else inner_node params id (r / 2) sibling value

-- the candidate for the ancestor of leaf q that many levels above it, from a candidate K and the path (RFC 8554 section
-- 5.4.2, Algorithm 6a, step 4)
unfoldable pub candidate_node : Params → List ℕ → ℕ → List ℕ → List ℕ → ℕ → List ℕ
candidate_node params id q key path zero = leaf_node params id (2 ^ params.h + q) key
candidate_node params id q key path (suc level) =
    let below = candidate_node params id q key path level in
    parent_node params id ((2 ^ params.h + q) / 2 ^ level) below (bytes_at path (params.n * level) params.n)

-- the candidate Tc for the root
abbrev pub candidate_root : Params → List ℕ → ℕ → List ℕ → List ℕ → List ℕ
candidate_root params id q key path = candidate_node params id q key path params.h
