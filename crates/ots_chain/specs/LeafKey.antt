-- The public value K of a leaf.
use Rattle.std.specs.Prelude.{ℕ, ◌-◌, ◌*◌, ◌^◌, List, ◌++◌}
use Rattle.lms_bytes.specs.Bytes.{u16str, u32str, bytes_at, joined}
use Rattle.lms_bytes.specs.Digits.{digit_of}
use Rattle.lms_bytes.specs.declared.params.Params.{Params}
use Rattle.lms_bytes.specs.Hash.{hash}
use Rattle.ots_chain.specs.Chains.{steps, secret_of}

-- what is hashed: I || u32str(q) || u16str(D_PBLC) || the ends of the chains
-- (RFC 8554 section 4.3, Algorithm 1, step 5, and section 7.1)
abbrev pub leaf_key_text : List ℕ → ℕ → List ℕ → List ℕ
leaf_key_text id q ends = id ++ u32str q ++ u16str 0x8080 ++ ends

-- K from the ends of the p chains
abbrev pub leaf_key_of_ends : Params → List ℕ → ℕ → (ℕ → List ℕ) → List ℕ
leaf_key_of_ends params id q end = hash params.n (leaf_key_text id q (joined end params.p))

-- K of a leaf whose secrets come from the seed (RFC 8554 section 4.3, Algorithm 1, and appendix A)
abbrev pub seed_leaf_key : Params → List ℕ → ℕ → List ℕ → List ℕ
seed_leaf_key params id q seed =
    leaf_key_of_ends params id q (λ i. steps params id q i 0 (2 ^ params.w - 1) (secret_of params id q i seed))

-- the candidate K from a digest and the signature's chain values y (RFC 8554 section 4.6, Algorithm 4b)
abbrev pub candidate_leaf_key : Params → List ℕ → ℕ → List ℕ → List ℕ → List ℕ
candidate_leaf_key params id q digest y =
    leaf_key_of_ends params id q (λ i.
    let digit = digit_of params digest i in
    steps params id q i digit (2 ^ params.w - 1 - digit) (bytes_at y (params.n * i) params.n))
