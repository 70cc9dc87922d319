-- Which bytes are the commitments that go with a reference.
use Rattle.std.specs.Prelude.{◌≡◌, ℕ, List, [], ◌∷◌, length, take, slice_index, Option, Some, None, ◌==◌, ◌&&◌}
use Rattle.std.specs.Prelude.{if◌then◌else◌}
use Rattle.std.specs.Str.{bytes_eq}
use Rattle.lms_bytes.specs.Bytes.{bytes_at}
use Rattle.share_files.specs.Commits.{commits_head_fault}
use Rattle.share_files.specs.Head.{first_fault, lms_at, ots_at, short_fault}
use Rattle.share_files.specs.declared.faults.FileFault.{FileFault}
use Rattle.share_files.specs.declared.faults.FileFault.TheVariants.{OtherKey, Plan}
use Rattle.share_files.specs.declared.reference.RefHeader.{RefHeader}

-- the identifier and the typecodes are those of a reference
pub record IsOfKey (header : RefHeader) (id : List ℕ) (lms ots : ℕ) : Type 0 where
  pub id_is : id ≡ header.id
  pub lms_is : lms ≡ header.params.lms
  pub ots_is : ots ≡ header.params.ots

-- the threshold and the number of trustees are those of a reference
pub record IsOfPlan (header : RefHeader) (k n : ℕ) : Type 0 where
  pub k_is : k ≡ header.plan.k
  pub n_is : n ≡ header.plan.n

-- of another key: the identifier or the typecodes differ from those of the reference
abbrev pub key_fault : RefHeader → List ℕ → ℕ → ℕ → Option FileFault
key_fault header id lms ots =
    if bytes_eq id header.id && (lms == header.params.lms) && (ots == header.params.ots) then None
    else Some (OtherKey id)

-- of another plan
abbrev pub plan_fault : RefHeader → ℕ → ℕ → Option FileFault
plan_fault header k n = if (k == header.plan.k) && (n == header.plan.n) then None else Some Plan

-- the first difference from the header of the reference, or none
unfoldable pub difference : RefHeader → List ℕ → ℕ → ℕ → ℕ → ℕ → Option FileFault
difference header id lms ots k n = first_fault (key_fault header id lms ots ∷ plan_fault header k n ∷ [])

-- the same for a head of 32 bytes
abbrev pub head_difference : RefHeader → List ℕ → Option FileFault
head_difference header head =
    difference header (bytes_at head 16 16) (lms_at head) (ots_at head) (slice_index head 6) (slice_index head 7)

-- the first test that a file fails as the commitments that go with a reference of this header, or none
unfoldable pub commits_fault : RefHeader → List ℕ → Option FileFault
commits_fault header bytes = first_fault (
    short_fault 32 bytes ∷ commits_head_fault (take 32 bytes) (length bytes)
    ∷ head_difference header (take 32 bytes) ∷ [])
