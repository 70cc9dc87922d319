-- The share file of a trustee.
use Rattle.std.specs.Prelude.{◌≡◌, ℕ, List, [], ◌∷◌, ◌++◌, length, slice_index, Option, Some, None, ◌&&◌, nat_le, codes}
use Rattle.std.specs.Prelude.{if◌then◌else◌}
use Rattle.coalition_map.specs.Coalitions.{PlanNumbers}
use Rattle.lms_bytes.specs.declared.params.Params.{Params}
use Rattle.share_files.specs.Head.{head_bytes, first_fault, short_fault, head_fault, plan_fault, length_fault}
use Rattle.share_files.specs.declared.faults.FileFault.{FileFault}
use Rattle.share_files.specs.declared.faults.FileFault.TheVariants.{Number}
use Rattle.share_files.specs.declared.share.Share.{Share}

-- what a share file begins with
abbrev pub share_magic : List ℕ
share_magic = codes "TLSH"

-- this project's profile: the head with t, k and n, and K_t, 64 bytes
abbrev pub share_file_of : Params → PlanNumbers → List ℕ → ℕ → List ℕ → List ℕ
share_file_of params plan id t key = head_bytes share_magic (t ∷ plan.k ∷ plan.n ∷ []) params id ++ key

abbrev pub share_bytes : Share → List ℕ
share_bytes share = share_file_of share.params share.plan share.id share.member share.key

-- two shares have the same typecodes, plan, member, identifier and key: everything else in them follows from these
pub record SameShare (a b : Share) : Type 0 where
  pub lms : b.params.lms ≡ a.params.lms
  pub ots : b.params.ots ≡ a.params.ots
  pub plan : b.plan ≡ a.plan
  pub member : b.member ≡ a.member
  pub id : b.id ≡ a.id
  pub key : b.key ≡ a.key

-- a trustee outside 1 .. n
abbrev pub member_fault : List ℕ → Option FileFault
member_fault bytes =
    let t = slice_index bytes 5 in
    if nat_le 1 t && nat_le t (slice_index bytes 7) then None else Some (Number t)

-- the first test that bytes fail as a share, or none
unfoldable pub share_fault : List ℕ → Option FileFault
share_fault bytes = first_fault (
    short_fault 64 bytes ∷ head_fault share_magic bytes ∷ plan_fault bytes ∷ member_fault bytes
    ∷ length_fault (length bytes) 64 ∷ [])
