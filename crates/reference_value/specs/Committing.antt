-- A leaf in the making, whose masks are committed to.
use Rattle.std.specs.Prelude.{◌≤◌, ℕ, ◌-◌, ◌*◌, ◌+◌, ◌^◌, List, [], length, map, slice_index_or}
use Rattle.coalition_map.specs.Members.{IsAscendingIn}
use Rattle.lms_bytes.specs.Bytes.{bytes_at, joined}
use Rattle.lms_bytes.specs.declared.params.Params.{Params}
use Rattle.mask_prf.specs.Masks.{chain_mask_of, check_tag_of, random_mask_of}
use Rattle.reference_value.specs.Commitments.{commitments_to}
use Rattle.reference_value.specs.Dealing.{masked, value_of_seed}
use Rattle.reference_value.specs.declared.committed.Leaf.{Leaf}
use Rattle.reference_value.specs.declared.committed.Masked.{Masked}
use Rattle.reference_value.specs.declared.committed.Masked.TheVariants.{Randomizer, Cell}

-- the members are some of the trustees, in ascending order
pub record AreMembers (keys : List (List ℕ)) (members : List ℕ) : Type 0 where
  pub few : length keys ≤ 12
  pub ascending : IsAscendingIn 1 (length keys + 1) members

-- the mask for a value of a leaf, from a trustee's key
abbrev pub mask_with : Params → List ℕ → ℕ → Masked → List ℕ → List ℕ
mask_with params id q Randomizer key = random_mask_of params key id q
mask_with params id q (Cell i j) key = chain_mask_of params key id q i j

-- that of trustee t
abbrev pub member_mask : Leaf → Masked → ℕ → List ℕ
member_mask leaf value t = mask_with leaf.params.now leaf.id.now leaf.q value (slice_index_or leaf.keys.now (t - 1) [])

-- the check tag of trustee t for the randomizer c
abbrev pub member_tag : Leaf → List ℕ → ℕ → List ℕ
member_tag leaf c t = check_tag_of (slice_index_or leaf.keys.now (t - 1) []) leaf.id.now leaf.q c

-- the value of chain i after j steps, masked, among the values of the chain
abbrev pub masked_cell : Leaf → List ℕ → ℕ → ℕ → List ℕ
masked_cell leaf values i j =
    masked (bytes_at values (leaf.params.now.n * j) leaf.params.now.n) (map (member_mask leaf (Cell i j)) leaf.members)

-- the commitments to its masks
abbrev pub cell_commits : Leaf → ℕ → ℕ → List ℕ
cell_commits leaf i j = commitments_to (member_mask leaf (Cell i j)) leaf.members

-- the cells of chain i, and the commitments to its masks
abbrev pub masked_row : Leaf → List ℕ → ℕ → List ℕ
masked_row leaf seed i =
    let value : ℕ → List ℕ = value_of_seed leaf.params.now leaf.id.now leaf.q seed i in
    joined (λ j. masked (value j) (map (member_mask leaf (Cell i j)) leaf.members)) (2 ^ leaf.params.now.w)

abbrev pub row_commits : Leaf → ℕ → List ℕ
row_commits leaf i = joined (cell_commits leaf i) (2 ^ leaf.params.now.w)
