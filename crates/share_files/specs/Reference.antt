-- The reference file of a dealing.
use Rattle.std.specs.Prelude.{◌≡◌, ℕ, ◌+◌, ◌*◌, ◌^◌, List, [], ◌∷◌, ◌++◌, length, take, slice_index, Option, codes}
use Rattle.coalition_map.specs.Coalitions.{PlanNumbers}
use Rattle.lms_bytes.specs.declared.params.Params.{Params}
use Rattle.mask_prf.specs.Lengths.{leaf_size, leaves_length}
use Rattle.share_files.specs.Head.{head_bytes, first_fault, short_fault, head_fault, plan_fault, zero_fault}
use Rattle.share_files.specs.Head.{length_fault, lms_at, ots_at}
use Rattle.share_files.specs.Sets.{CanBeDealt, chain_count, height_of, node_length, width_of}
use Rattle.share_files.specs.declared.faults.FileFault.{FileFault}
use Rattle.share_files.specs.declared.reference.RefHeader.{RefHeader}

-- what a reference file begins with
abbrev pub reference_magic : List ℕ
reference_magic = codes "TLRF"

-- this project's profile: a head with a zero, k and n, 32 bytes
abbrev pub plan_head_of : List ℕ → Params → PlanNumbers → List ℕ → List ℕ
plan_head_of magic params plan id = head_bytes magic (0 ∷ plan.k ∷ plan.n ∷ []) params id

abbrev pub plan_head : List ℕ → RefHeader → List ℕ
plan_head magic header = plan_head_of magic header.params header.plan header.id

abbrev pub reference_head_of : Params → PlanNumbers → List ℕ → List ℕ
reference_head_of params plan id = plan_head_of reference_magic params plan id

abbrev pub reference_head : RefHeader → List ℕ
reference_head header = plan_head reference_magic header

-- how long the reference file is
abbrev pub reference_length : RefHeader → ℕ
reference_length header = 32 + leaves_length header.params header.plan

-- two headers have the same typecodes, plan and identifier: everything else in them follows from these
pub record SameHeader (a b : RefHeader) : Type 0 where
  pub lms : b.params.lms ≡ a.params.lms
  pub ots : b.params.ots ≡ a.params.ots
  pub plan : b.plan ≡ a.plan
  pub id : b.id ≡ a.id

-- internal: what a head says about the set and the threshold is what the header has
pub record HasCodes (head : List ℕ) (header : RefHeader) : Type 0 where
  pub lms : lms_at head ≡ header.params.lms
  pub ots : ots_at head ≡ header.params.ots
  pub threshold : slice_index head 6 ≡ header.plan.k

-- bytes are the reference file with this header and these leaves
pub record HasReferenceLayout (header : RefHeader) (bytes leaves : List ℕ) : Type 0 where
  pub dealt : CanBeDealt header.params
  pub leaves_are : length leaves ≡ leaves_length header.params header.plan
  pub parts : bytes ≡ reference_head header ++ leaves

-- how long the reference file of these typecodes and this threshold is
abbrev pub length_of : ℕ → ℕ → ℕ → ℕ
length_of lms ots k = 32 + leaf_size (node_length lms) k (width_of ots) (chain_count ots) * 2 ^ height_of lms

-- the first test that a head of 32 bytes with a plan fails, whatever the length of its file, or none
unfoldable pub plan_head_fault : List ℕ → List ℕ → Option FileFault
plan_head_fault magic head = first_fault (head_fault magic head ∷ plan_fault head ∷ zero_fault 5 head ∷ [])

-- the first test that a head of 32 bytes fails, as the head of a reference file of this length, or none
unfoldable pub reference_head_fault : List ℕ → ℕ → Option FileFault
reference_head_fault head size = first_fault (
    plan_head_fault reference_magic head
    ∷ length_fault size (length_of (lms_at head) (ots_at head) (slice_index head 6)) ∷ [])

-- the first test that bytes fail as a reference file, or none
unfoldable pub reference_fault : List ℕ → Option FileFault
reference_fault bytes = first_fault (short_fault 32 bytes ∷ reference_head_fault (take 32 bytes) (length bytes) ∷ [])
