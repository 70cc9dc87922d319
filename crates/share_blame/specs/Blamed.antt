-- The trustees that commitments blame.
use Rattle.std.specs.Prelude.{◌≡◌, ◌≢◌, ◌↔◌, ℕ, ◌*◌, ◌<◌, List, Contains, Some}
use Rattle.coalition_map.specs.Coalitions.{PlanNumbers}
use Rattle.lms_bytes.specs.declared.params.Params.{Params}
use Rattle.sha2.specs.Sha256.{sha256}
use Rattle.lms_bytes.specs.Bytes.{bytes_at}
use Rattle.lms_bytes.specs.Digits.{digit_of}
use Rattle.reference_value.specs.Commitments.{cell_commitment_in, random_commitment_in}
use Rattle.session_core.specs.Asks.{kept_masks}
use Rattle.session_core.specs.State.{State}

-- the mask that is kept for trustee t in round one has a SHA-256 other than the commitment
pub record FirstDiffers (leaves : List ℕ) (s : State) (t : ℕ) : Type 0 where
  pub mask : List ℕ
  pub kept : kept_masks s 1 t ≡ Some mask
  pub other : sha256 mask ≢ random_commitment_in s.key.params s.plan leaves s.leaf t

-- of these masks of trustee t for the chains of leaf q, that of chain i has a SHA-256 other than the commitment at the
-- digest's digit
pub record ChainDiffers (params : Params) (plan : PlanNumbers) (leaves : List ℕ) (q : ℕ) (digest masks : List ℕ)
    (t i : ℕ) : Type 0 where
  pub chain : i < params.p
  pub other : sha256 (bytes_at masks (params.n * i) params.n)
      ≢ cell_commitment_in params plan leaves q i (digit_of params digest i) t

-- one of these masks differs in this way
pub record ChainsDiffer (params : Params) (plan : PlanNumbers) (leaves : List ℕ) (q : ℕ) (digest masks : List ℕ)
    (t : ℕ) : Type 0 where
  pub i : ℕ
  pub differs : ChainDiffers params plan leaves q digest masks t i

pub record SecondDiffers (leaves : List ℕ) (s : State) (digest : List ℕ) (t : ℕ) : Type 0 where
  pub masks : List ℕ
  pub kept : kept_masks s 2 t ≡ Some masks
  pub differs : ChainsDiffer s.key.params s.plan leaves s.leaf digest masks t

-- trustee t is blamed by the leaves of a commitment file: a mask that a session keeps for it is not the one that the
-- dealer committed to
pub data IsBlamed (leaves : List ℕ) (s : State) (digest : List ℕ) (t : ℕ) : Type 0 where
  by_first : FirstDiffers leaves s t → IsBlamed leaves s digest t
  by_second : SecondDiffers leaves s digest t → IsBlamed leaves s digest t

-- these are the trustees that are blamed
abbrev pub AreBlamed : List ℕ → State → List ℕ → List ℕ → Type 0
AreBlamed leaves s digest members = (t : ℕ) → Contains members t ↔ IsBlamed leaves s digest t
