-- The dealer's commitments to the masks of all members, by this project's own formulas.
use Rattle.std.specs.Prelude.{ℕ, ◌+◌, ◌*◌, ◌^◌, List, ◌++◌, map}
use Rattle.std.specs.List.{concat}
use Rattle.sha2.specs.Sha256.{sha256}
use Rattle.coalition_map.specs.Coalitions.{PlanNumbers}
use Rattle.lms_bytes.specs.Bytes.{bytes_at, joined}
use Rattle.lms_bytes.specs.declared.params.Params.{Params}
use Rattle.reference_value.specs.Dealing.{Dealing, chain_mask, members_of, random_mask}
use Rattle.reference_value.specs.Places.{rank_place}
use Rattle.mask_prf.specs.Lengths.{leaf_commits_length}

-- SHA-256 of a mask, of the mask of each of these trustees
abbrev pub commitments_to : (ℕ → List ℕ) → List ℕ → List ℕ
commitments_to mask trustees = concat (map (λ t. sha256 (mask t)) trustees)

-- the commitments of leaf q: for each member, in ascending order, that to its mask of the randomizer; then for chain by
-- chain, and in each chain for j = 0 to 2^w - 1, those to the members' masks
unfoldable pub leaf_commitments : Dealing → ℕ → List ℕ
leaf_commitments d q =
    let cell : ℕ → ℕ → List ℕ = λ i j. commitments_to (chain_mask d q i j) (members_of d q) in
    commitments_to (random_mask d q) (members_of d q) ++ joined (λ i. joined (cell i) (2 ^ d.params.w)) d.params.p

-- those of all leaves, from 0 on
unfoldable pub commitments : Dealing → List ℕ
commitments d = joined (leaf_commitments d) (2 ^ d.params.h)

-- where the commitments of leaf q begin
abbrev pub leaf_commits_place : Params → PlanNumbers → ℕ → ℕ
leaf_commits_place params plan q = leaf_commits_length params plan.k * q

-- the commitment to trustee t's mask of the randomizer of leaf q
unfoldable pub random_commitment_in : Params → PlanNumbers → List ℕ → ℕ → ℕ → List ℕ
random_commitment_in params plan leaves q t =
    bytes_at leaves (leaf_commits_place params plan q + rank_place plan q t) 32

-- where the commitments to the masks of chain i of leaf q after j steps begin
abbrev pub cell_commits_place : Params → PlanNumbers → ℕ → ℕ → ℕ → ℕ
cell_commits_place params plan q i j =
    leaf_commits_place params plan q + 32 * plan.k + 32 * plan.k * 2 ^ params.w * i + 32 * plan.k * j

-- the commitment to trustee t's mask of chain i of leaf q after j steps
unfoldable pub cell_commitment_in : Params → PlanNumbers → List ℕ → ℕ → ℕ → ℕ → ℕ → List ℕ
cell_commitment_in params plan leaves q i j t =
    bytes_at leaves (cell_commits_place params plan q i j + rank_place plan q t) 32
