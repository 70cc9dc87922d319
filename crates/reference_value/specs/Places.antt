-- Where the values of a reference lie among its leaves.
use Rattle.std.specs.Prelude.{ℕ, ◌+◌, ◌*◌, ◌^◌, List, length}
use Rattle.coalition_map.specs.Coalitions.{PlanNumbers, leaf_members}
use Rattle.coalition_map.specs.Members.{below}
use Rattle.lms_bytes.specs.Bytes.{bytes_at}
use Rattle.lms_bytes.specs.declared.params.Params.{Params}
use Rattle.mask_prf.specs.Lengths.{leaf_length}

-- where leaf q begins
abbrev pub leaf_place : Params → PlanNumbers → ℕ → ℕ
leaf_place params plan q = leaf_length params plan.k * q

-- how many members of leaf q have lesser numbers than trustee t
abbrev pub rank_of : PlanNumbers → ℕ → ℕ → ℕ
rank_of plan q t = length (below t (leaf_members plan q))

-- where the 32 bytes of trustee t lie among those of the members of leaf q
abbrev pub rank_place : PlanNumbers → ℕ → ℕ → ℕ
rank_place plan q t = 32 * rank_of plan q t

-- where the tag of trustee t lies, after those of the members with lesser numbers
abbrev pub tag_place : Params → PlanNumbers → ℕ → ℕ → ℕ
tag_place params plan q t = leaf_place params plan q + params.n + rank_place plan q t

-- where the cell of chain i after j steps lies
abbrev pub cell_place : Params → PlanNumbers → ℕ → ℕ → ℕ → ℕ
cell_place params plan q i j =
    leaf_place params plan q + params.n + 32 * plan.k + params.n * 2 ^ params.w * i + params.n * j

-- the masked randomizer of leaf q
unfoldable pub randomizer_in : Params → PlanNumbers → List ℕ → ℕ → List ℕ
randomizer_in params plan leaves q = bytes_at leaves (leaf_place params plan q) params.n

-- the tag of leaf q for trustee t
unfoldable pub tag_in : Params → PlanNumbers → List ℕ → ℕ → ℕ → List ℕ
tag_in params plan leaves q t = bytes_at leaves (tag_place params plan q t) 32

-- the cell of chain i of leaf q after j steps
unfoldable pub cell_in : Params → PlanNumbers → List ℕ → ℕ → ℕ → ℕ → List ℕ
cell_in params plan leaves q i j = bytes_at leaves (cell_place params plan q i j) params.n
