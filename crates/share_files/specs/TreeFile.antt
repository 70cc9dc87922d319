-- The tree file of a dealing.
use Rattle.std.specs.Prelude.{◌≡◌, ℕ, ◌+◌, ◌-◌, ◌*◌, ◌^◌, List, [], ◌∷◌, ◌++◌, length, Option, codes}
use Rattle.lms_bytes.specs.declared.params.Params.{Params}
use Rattle.share_files.specs.Head.{head_bytes, first_fault, short_fault, head_fault, zero_fault, length_fault, lms_at}
use Rattle.share_files.specs.Sets.{CanBeDealt, height_of, node_length}
use Rattle.share_files.specs.declared.faults.FileFault.{FileFault}

-- what a tree file begins with
abbrev pub tree_magic : List ℕ
tree_magic = codes "TLTR"

-- this project's profile: the head with three zeros, 32 bytes
abbrev pub tree_head : Params → List ℕ → List ℕ
tree_head params id = head_bytes tree_magic (0 ∷ 0 ∷ 0 ∷ []) params id

-- two files have the same typecodes, identifier and nodes: everything else in them follows from these
pub record SameTree (params params' : Params) (id id' nodes nodes' : List ℕ) : Type 0 where
  pub lms : params'.lms ≡ params.lms
  pub ots : params'.ots ≡ params.ots
  pub same_id : id' ≡ id
  pub same_nodes : nodes' ≡ nodes

-- bytes are the tree file with this set, identifier and nodes T[1] || T[2] || .. || T[2^(h+1) - 1]
pub record HasTreeLayout (params : Params) (bytes id nodes : List ℕ) : Type 0 where
  pub dealt : CanBeDealt params
  pub id_length : length id ≡ 16
  pub nodes_length : length nodes ≡ params.n * (2 ^ (params.h + 1) - 1)
  pub parts : bytes ≡ tree_head params id ++ nodes

-- how long the tree file of an LMS typecode is
abbrev pub tree_length : ℕ → ℕ
tree_length lms = 32 + node_length lms * (2 ^ (height_of lms + 1) - 1)

-- the first test that bytes fail as a tree file, or none
unfoldable pub tree_fault : List ℕ → Option FileFault
tree_fault bytes = first_fault (
    short_fault 32 bytes ∷ head_fault tree_magic bytes
    ∷ zero_fault 5 bytes ∷ zero_fault 6 bytes ∷ zero_fault 7 bytes
    ∷ length_fault (length bytes) (tree_length (lms_at bytes)) ∷ [])
