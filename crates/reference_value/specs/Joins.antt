-- What cells give once masks are joined to them.
use Rattle.std.specs.Prelude.{ℕ, ◌*◌, List}
use Rattle.coalition_map.specs.Coalitions.{PlanNumbers}
use Rattle.lms_bytes.specs.Bytes.{bytes_at, joined, xor}
use Rattle.lms_bytes.specs.Digits.{digit_of}
use Rattle.lms_bytes.specs.declared.params.Params.{Params}
use Rattle.reference_value.specs.Places.{cell_in}

-- the cell of chain i of leaf q at the digest's digit, XOR the i-th of the sums of n bytes
abbrev pub joined_chain : Params → PlanNumbers → List ℕ → ℕ → List ℕ → List ℕ → ℕ → List ℕ
joined_chain params plan leaves q digest sums i =
    xor (cell_in params plan leaves q i (digit_of params digest i)) (bytes_at sums (params.n * i) params.n)

-- those of all chains
unfoldable pub joined_chains : Params → PlanNumbers → List ℕ → ℕ → List ℕ → List ℕ → List ℕ
joined_chains params plan leaves q digest sums = joined (joined_chain params plan leaves q digest sums) params.p
