-- internal: What is built of a run of leaves.
use Rattle.std.specs.Prelude.{◌≡◌, ℕ, ◌+◌, ◌*◌, ◌^◌, ◌<◌, Bool, if◌then◌else◌, List, [], length, take}
use Rattle.std.specs.declared.alloc.Global.{Global}
use Rattle.std.specs.declared.vec.Vec.{Vec}
use Rattle.coalition_map.specs.Coalitions.{PlanNumbers}
use Rattle.lms_bytes.specs.Bytes.{joined}
use Rattle.lms_bytes.specs.declared.params.Params.{Params}
use Rattle.mask_prf.specs.Lengths.{leaf_commits_length, leaf_length}
use Rattle.ots_chain.specs.LeafKey.{seed_leaf_key}
use Rattle.reference_value.specs.Commitments.{leaf_commitments}
use Rattle.reference_value.specs.Dealing.{Dealing, leaf_part}
use Rattle.share_files.specs.Commits.{commits_head_of, commits_length}
use Rattle.dealer.specs.Committed.{commits_file}
use Rattle.dealer.specs.Dealt.{IsDealt}
use Rattle.dealer.specs.declared.dealing.Dealt.{Dealt}
use Rattle.dealer.specs.declared.runs.Run.{Run}

-- the leaves of a run of the masked reference value, one after the other
abbrev pub run_leaves : Dealing → Run → List ℕ
run_leaves d run = joined (λ i. leaf_part d (run.first + i)) run.count

-- the commitments to the masks of a leaf if they are asked for, and nothing otherwise
abbrev pub leaf_asked : Bool → Dealing → ℕ → List ℕ
leaf_asked commit d q = if commit then leaf_commitments d q else []

-- how long they are
abbrev pub asked_length : Bool → Params → ℕ → ℕ
asked_length commit params k = if commit then leaf_commits_length params k else 0

-- those of the leaves of a run
abbrev pub run_asked : Bool → Dealing → Run → List ℕ
run_asked commit d run = joined (λ i. leaf_asked commit d (run.first + i)) run.count

-- K of leaf q
abbrev pub dealt_leaf_key : Dealing → ℕ → List ℕ
dealt_leaf_key d q = seed_leaf_key d.params d.id q d.seed

-- K of each leaf of a run, one after the other, and of all leaves
abbrev pub run_keys : Dealing → Run → List ℕ
run_keys d run = joined (λ i. dealt_leaf_key d (run.first + i)) run.count

abbrev pub joined_keys : Dealing → List ℕ
joined_keys d = joined (dealt_leaf_key d) (2 ^ d.params.h)

-- room for what is built of a run of so many leaves: these, the commitments if they are asked for, and K of each leaf
pub record HasRunRoom (commit : Bool) (params : Params) (k count : ℕ) (leaves commits keys : List ℕ) : Type 0 where
  pub leaves_room : length leaves ≡ leaf_length params k * count
  pub commits_room : length commits ≡ asked_length commit params k * count
  pub keys_room : length keys ≡ params.n * count

-- this is what is built of a run
pub record IsRunBuilt (commit : Bool) (d : Dealing) (run : Run) (leaves commits keys : List ℕ) : Type 0 where
  pub leaves_are : leaves ≡ run_leaves d run
  pub commits_are : commits ≡ run_asked commit d run
  pub keys_are : keys ≡ run_keys d run

-- the commitment file if commitments are asked for, and nothing otherwise
abbrev pub file_asked : Bool → Dealing → List ℕ
file_asked commit d = if commit then commits_file d else []

-- room for it, with its head
pub record HasRoom (commit : Bool) (params : Params) (plan : PlanNumbers) (id file : List ℕ) : Type 0 where
  pub head : take 32 file ≡ (if commit then commits_head_of params plan id else [])
  pub size : length file ≡ (if commit then commits_length params plan else 0)

-- what is built of a dealing: what it gives, with at least one share, and its commitment file if it is asked for
pub record IsBuilt (commit : Bool) (d : Dealing) (built : Dealt × Vec ℕ Global) : Type 0 where
  pub dealt : IsDealt d built.0
  pub file : built.1.items ≡ file_asked commit d
  pub shares : 0 < length built.0.shares.items
