-- Cells, masks and values of chains as lists, and the masks that join cells to given values.
use Rattle.std.specs.Prelude.{◌≡◌, ℕ, ◌^◌, ◌<◌, List, [], length, map, All, slice_index_or}
use Rattle.lms_bytes.specs.Bytes.{xor}
use Rattle.reference_value.specs.Dealing.{sum_of_masks}

-- a value of n bytes
pub record IsValue (n : ℕ) (value : List ℕ) : Type 0 where
  pub size : length value ≡ n
  pub bytes : All (λ b. b < 2 ^ 8) value

-- p values of n bytes, one for each chain
pub record AreValues (n p : ℕ) (values : List (List ℕ)) : Type 0 where
  pub count : length values ≡ p
  pub each : All (IsValue n) values

-- the value for chain i
abbrev pub at_chain : ℕ → List (List ℕ) → List ℕ
at_chain i values = slice_index_or values i []

-- for each chain the cell, XOR the sum of all members' masks, is the value
abbrev pub JoinTo : ℕ → ℕ → List (List ℕ) → List (List (List ℕ)) → List (List ℕ) → Type 0
JoinTo n p cells masks values =
    (i : ℕ) → i < p → xor (at_chain i cells) (sum_of_masks n (map (at_chain i) masks)) ≡ at_chain i values

-- exactly one of such lists meets P
pub record ExactlyOne (P : List (List ℕ) → Type 0) : Type 0 where
  pub one : List (List ℕ)
  pub meets : P one
  pub only : (other : List (List ℕ)) → P other → other ≡ one
