-- How long the masked values of a leaf are, and the commitments to their masks. The layout is this project's own.
use Rattle.std.specs.Prelude.{ℕ, ◌+◌, ◌*◌, ◌^◌}
use Rattle.coalition_map.specs.Coalitions.{PlanNumbers}
use Rattle.lms_bytes.specs.declared.params.Params.{Params}

-- this project's profile: the masked randomizer, a check tag for each of k members, and the cells of p chains, 2^w each
abbrev pub leaf_size : ℕ → ℕ → ℕ → ℕ → ℕ
leaf_size n k w p = n + 32 * k + n * 2 ^ w * p

abbrev pub leaf_length : Params → ℕ → ℕ
leaf_length params k = leaf_size params.n k params.w params.p

-- the bytes of all leaves
abbrev pub leaves_length : Params → PlanNumbers → ℕ
leaves_length params plan = leaf_length params plan.k * 2 ^ params.h

-- this project's profile: 32 bytes for each of k members, for the mask of the randomizer, and for the masks of p
-- chains, 2^w each
abbrev pub leaf_commits_size : ℕ → ℕ → ℕ → ℕ
leaf_commits_size k w p = 32 * k + 32 * k * 2 ^ w * p

abbrev pub leaf_commits_length : Params → ℕ → ℕ
leaf_commits_length params k = leaf_commits_size k params.w params.p

-- the commitments of all leaves
abbrev pub all_commits_length : Params → PlanNumbers → ℕ
all_commits_length params plan = leaf_commits_length params plan.k * 2 ^ params.h
