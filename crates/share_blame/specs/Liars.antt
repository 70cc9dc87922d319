-- What members gave, compared with the masks that a dealing gives them.
use Rattle.std.specs.Prelude.{◌≡◌, ◌≢◌, ◌⊎◌, ℕ, ◌*◌, ◌<◌, List, Some, length}
use Rattle.sha2.specs.Sha256.{sha256}
use Rattle.coalition_map.specs.Coalitions.{IsPlan}
use Rattle.lms_bytes.specs.Bytes.{bytes_at}
use Rattle.lms_bytes.specs.Digits.{digit_of}
use Rattle.lms_verify.specs.Accepts.{AcceptsAt}
use Rattle.lms_verify.specs.UndividedKey.{UndividedKey, leaf_key}
use Rattle.merkle_path.specs.Tree.{TreeNodes, tree_of}
use Rattle.reference_value.specs.Commitments.{commitments}
use Rattle.reference_value.specs.Dealing.{Dealing, chain_mask, random_mask, reference}
use Rattle.session_core.specs.Asks.{kept_masks}
use Rattle.session_core.specs.Dealing.{IsOfDealing, digit_masks}
use Rattle.session_core.specs.State.{IsSession, State}
use Rattle.session_core.specs.Verdicts.{AreMasks, joined_bytes, joined_c}
use Rattle.share_blame.specs.Blamed.{IsBlamed}

-- the session is of the dealing's set and plan, and the digest has the hash length
pub record IsOver (d : Dealing) (s : State) (digest : List ℕ) : Type 0 where
  pub session : IsSession s
  pub plan_is : IsPlan d.plan
  pub plan : s.plan ≡ d.plan
  pub params : s.key.params ≡ d.params
  pub size : length digest ≡ d.params.n

-- the mask of trustee t for chain i, at the digest's digit
abbrev pub mask_at : Dealing → State → List ℕ → ℕ → ℕ → List ℕ
mask_at d s digest i t = chain_mask d s.leaf i (digit_of d.params digest i) t

-- what is kept for trustee t is not the masks that the dealing gives it, at the digits of the digest
pub data GaveOther (d : Dealing) (s : State) (digest : List ℕ) (t : ℕ) : Type 0 where
  gave_first : (mask : List ℕ) → kept_masks s 1 t ≡ Some mask → mask ≢ random_mask d s.leaf t → GaveOther d s digest t
  gave_second : (masks : List ℕ) → kept_masks s 2 t ≡ Some masks → masks ≢ digit_masks d s.leaf digest t
      → GaveOther d s digest t

-- two strings that differ and have one SHA-256
pub record Collide (a b : List ℕ) : Type 0 where
  pub differ : a ≢ b
  pub hash : sha256 a ≡ sha256 b

-- a mask that is kept for trustee t differs from the dealing's, and both have one SHA-256
pub data Passes (d : Dealing) (s : State) (digest : List ℕ) (t : ℕ) : Type 0 where
  passes_first : (mask : List ℕ) → kept_masks s 1 t ≡ Some mask → Collide mask (random_mask d s.leaf t)
      → Passes d s digest t
  passes_second : (masks : List ℕ) (i : ℕ) → kept_masks s 2 t ≡ Some masks → i < d.params.p
      → Collide (bytes_at masks (d.params.n * i) d.params.n) (mask_at d s digest i t) → Passes d s digest t

-- the dealer's commitments blame trustee t, or it found a string with the SHA-256 of a mask that it had to give
abbrev pub IsNamed : Dealing → State → List ℕ → ℕ → Type 0
IsNamed d s digest t = IsBlamed (commitments d) s digest t ⊎ Passes d s digest t

-- trustee t alone gave other masks
pub record LiedAlone (d : Dealing) (s : State) (digest : List ℕ) (t : ℕ) : Type 0 where
  pub lied : GaveOther d s digest t
  pub alone : (u : ℕ) → GaveOther d s digest u → u ≡ t

-- trustee t alone is named
pub record NamedAlone (d : Dealing) (s : State) (digest : List ℕ) (t : ℕ) : Type 0 where
  pub named : IsNamed d s digest t
  pub alone : (u : ℕ) → IsBlamed (commitments d) s digest u → u ≡ t

-- all members gave masks in both rounds, which were joined to the dealer's reference and laid out with its tree, and
-- the signature is not accepted
pub record EndsAstray (d : Dealing) (key : UndividedKey) (s : State) (tree : TreeNodes) (message : List ℕ)
    : Type 0 where
  pub dealing : IsOfDealing d key s
  pub tree_is : tree ≡ tree_of key.params key.id (leaf_key key)
  pub first : AreMasks s.first
  pub second : AreMasks s.second
  pub c : s.c ≡ Some (joined_c s (reference d))
  pub refused : AcceptsAt s.key message (joined_bytes s (reference d) tree message) s.leaf → ⊥
