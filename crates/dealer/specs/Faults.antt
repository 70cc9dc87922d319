-- Which entropy is dealt, and why other entropy is not, by the first test that fails.
use Rattle.std.specs.Prelude.{◌≡◌, ◌≢◌, ℕ, ◌<◌, ◌≤◌, ◌⊎◌, Bool, false, true, List, length}
use Rattle.coalition_map.specs.Coalitions.{PlanNumbers}
use Rattle.lms_bytes.specs.declared.params.Params.{Params}
use Rattle.share_files.specs.Sets.{CanBeDealt, IsSmall}
use Rattle.dealer.specs.Entropy.{entropy_length, trustee_key}
use Rattle.dealer.specs.declared.faults.DealFault.{DealFault}
use Rattle.dealer.specs.declared.faults.DealFault.TheVariants.{TooHigh, TooWide, BadEntropy, SameKeys}

-- two trustees, t and then u
pub record AreTwo (trustees t u : ℕ) : Type 0 where
  pub first : 1 ≤ t
  pub order : t < u
  pub last : u ≤ trustees

-- no two trustees have the same key
abbrev pub AllDiffer : ℕ → List ℕ → Type 0
AllDiffer trustees entropy = (t u : ℕ) → AreTwo trustees t u → trustee_key entropy t ≢ trustee_key entropy u

-- t and u have the same key, and each other pair that does comes after them, by its first trustee and then its second
pub record AreFirstAlike (trustees : ℕ) (entropy : List ℕ) (t u : ℕ) : Type 0 where
  pub two : AreTwo trustees t u
  pub alike : trustee_key entropy t ≡ trustee_key entropy u
  pub first : (other another : ℕ) → AreTwo trustees other another
      → trustee_key entropy other ≡ trustee_key entropy another → (t < other) ⊎ ((t ≡ other) × (u ≤ another))

-- the set is dealt: a small one or, if large ones are asked for, each of height 20 at most
abbrev pub IsSetDealt : Bool → Params → Type 0
IsSetDealt false params = IsSmall params
IsSetDealt true params = CanBeDealt params

abbrev pub greatest_height : Bool → ℕ
greatest_height false = 10
greatest_height true = 20

-- the dealing that this entropy stands for is dealt, of a large set only if these are asked for
pub record IsDealable (large : Bool) (params : Params) (plan : PlanNumbers) (entropy : List ℕ) : Type 0 where
  pub set : IsSetDealt large params
  pub size : length entropy ≡ entropy_length plan.n
  pub keys : AllDiffer plan.n entropy

-- why it is not
pub data HasFault (large : Bool) (params : Params) (plan : PlanNumbers) (entropy : List ℕ) : DealFault → Type 0 where
  too_high : greatest_height large < params.h → HasFault large params plan entropy (TooHigh params.h)
  too_wide : large ≡ false → params.h ≡ 10 → params.w ≡ 8 → HasFault large params plan entropy TooWide
  bad_entropy : IsSetDealt large params → length entropy ≢ entropy_length plan.n
      → HasFault large params plan entropy (BadEntropy (length entropy) (entropy_length plan.n))
  same_keys : (t u : ℕ) → IsSetDealt large params → length entropy ≡ entropy_length plan.n
      → AreFirstAlike plan.n entropy t u → HasFault large params plan entropy (SameKeys t u)
