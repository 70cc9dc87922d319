-- The commitment file of a dealing.
use Rattle.std.specs.Prelude.{ℕ, ◌+◌, ◌*◌, ◌^◌, List, [], ◌∷◌, slice_index, Option, codes}
use Rattle.coalition_map.specs.Coalitions.{PlanNumbers}
use Rattle.lms_bytes.specs.declared.params.Params.{Params}
use Rattle.mask_prf.specs.Lengths.{all_commits_length, leaf_commits_size}
use Rattle.share_files.specs.Head.{first_fault, length_fault, lms_at, ots_at}
use Rattle.share_files.specs.Reference.{plan_head, plan_head_fault, plan_head_of}
use Rattle.share_files.specs.Sets.{chain_count, height_of, width_of}
use Rattle.share_files.specs.declared.faults.FileFault.{FileFault}
use Rattle.share_files.specs.declared.reference.RefHeader.{RefHeader}

-- what a commitment file begins with
abbrev pub commits_magic : List ℕ
commits_magic = codes "TLCM"

abbrev pub commits_head_of : Params → PlanNumbers → List ℕ → List ℕ
commits_head_of params plan id = plan_head_of commits_magic params plan id

abbrev pub commits_head : RefHeader → List ℕ
commits_head header = plan_head commits_magic header

-- how long the commitment file is
abbrev pub commits_length : Params → PlanNumbers → ℕ
commits_length params plan = 32 + all_commits_length params plan

-- how long the commitment file of these typecodes and this threshold is
abbrev pub commits_length_of : ℕ → ℕ → ℕ → ℕ
commits_length_of lms ots k = 32 + leaf_commits_size k (width_of ots) (chain_count ots) * 2 ^ height_of lms

-- the first test that a head of 32 bytes fails, as the head of a commitment file of this length, or none
unfoldable pub commits_head_fault : List ℕ → ℕ → Option FileFault
commits_head_fault head size = first_fault (
    plan_head_fault commits_magic head
    ∷ length_fault size (commits_length_of (lms_at head) (ots_at head) (slice_index head 6)) ∷ [])
