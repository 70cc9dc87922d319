-- The reference value of a dealing, by this project's own formulas: each value of each chain, masked for the members of
-- its leaf (after Kelsey, Lang and Lucks).
use Rattle.std.specs.Prelude.{ℕ, ◌-◌, ◌^◌, List, ◌++◌, [], map, fold, replicate, slice_index_or}
use Rattle.std.specs.List.{concat}
use Rattle.coalition_map.specs.Coalitions.{PlanNumbers, leaf_members}
use Rattle.lms_bytes.specs.Bytes.{joined, xor}
use Rattle.lms_bytes.specs.Digits.{digit_of}
use Rattle.lms_bytes.specs.declared.params.Params.{Params}
use Rattle.mask_prf.specs.Masks.{chain_mask_of, check_tag_of, random_mask_of, randomizer_of}
use Rattle.ots_chain.specs.Chains.{secret_of, steps}

-- what a dealing is made from
pub record Dealing : Type 0 where
  pub params : Params
  pub plan : PlanNumbers
  -- the identifier I of the key, and its SEED
  pub id : List ℕ
  pub seed : List ℕ
  -- the key of the randomizers
  pub random_key : List ℕ
  -- the keys of the trustees, that of trustee 1 first
  pub keys : List (List ℕ)

-- a dealing from its parts, in this order
abbrev pub dealing_from : Params → PlanNumbers → List ℕ → List ℕ → List ℕ → List (List ℕ) → Dealing
dealing_from params plan id seed random_key keys = record {
  params = params;
  plan = plan;
  id = id;
  seed = seed;
  random_key = random_key;
  keys = keys;
}

-- a value XOR each of these masks
abbrev pub masked : List ℕ → List (List ℕ) → List ℕ
masked value masks = fold xor value masks

-- the XOR of masks of n bytes
abbrev pub sum_of_masks : ℕ → List (List ℕ) → List ℕ
sum_of_masks n masks = masked (replicate n 0) masks

-- the key of trustee t
abbrev pub key_of : Dealing → ℕ → List ℕ
key_of d t = slice_index_or d.keys (t - 1) []

-- the members of leaf q
abbrev pub members_of : Dealing → ℕ → List ℕ
members_of d q = leaf_members d.plan q

-- the randomizer C of leaf q
abbrev pub leaf_randomizer : Dealing → ℕ → List ℕ
leaf_randomizer d q = randomizer_of d.params d.random_key d.id q

-- the value of chain i of leaf q after the steps 0 to j - 1, from the seed
abbrev pub value_of_seed : Params → List ℕ → ℕ → List ℕ → ℕ → ℕ → List ℕ
value_of_seed params id q seed i j = steps params id q i 0 j (secret_of params id q i seed)

-- those of all steps, joined
abbrev pub values_of_seed : Params → List ℕ → ℕ → List ℕ → ℕ → List ℕ
values_of_seed params id q seed i = joined (value_of_seed params id q seed i) (2 ^ params.w)

abbrev pub chain_value : Dealing → ℕ → ℕ → ℕ → List ℕ
chain_value d q i j = value_of_seed d.params d.id q d.seed i j

-- the mask that trustee t has for the randomizer of leaf q
abbrev pub random_mask : Dealing → ℕ → ℕ → List ℕ
random_mask d q t = random_mask_of d.params (key_of d t) d.id q

-- the tag by which trustee t knows the randomizer of leaf q
abbrev pub check_tag : Dealing → ℕ → ℕ → List ℕ
check_tag d q t = check_tag_of (key_of d t) d.id q (leaf_randomizer d q)

-- the mask that trustee t has for a value of a chain
abbrev pub chain_mask : Dealing → ℕ → ℕ → ℕ → ℕ → List ℕ
chain_mask d q i j t = chain_mask_of d.params (key_of d t) d.id q i j

-- the randomizer of leaf q XOR the masks of all members
unfoldable pub masked_randomizer : Dealing → ℕ → List ℕ
masked_randomizer d q = masked (leaf_randomizer d q) (map (random_mask d q) (members_of d q))

-- the tags of leaf q, 32 bytes for each member in ascending order
unfoldable pub tags : Dealing → ℕ → List ℕ
tags d q = concat (map (check_tag d q) (members_of d q))

-- a value of a chain XOR the masks of all members
unfoldable pub cell : Dealing → ℕ → ℕ → ℕ → List ℕ
cell d q i j = masked (chain_value d q i j) (map (chain_mask d q i j) (members_of d q))

-- the cells of leaf q, chain by chain, and in each chain those of j = 0 to 2^w - 1
unfoldable pub cells : Dealing → ℕ → List ℕ
cells d q = joined (λ i. joined (λ j. cell d q i j) (2 ^ d.params.w)) d.params.p

-- leaf q of the reference
unfoldable pub leaf_part : Dealing → ℕ → List ℕ
leaf_part d q = masked_randomizer d q ++ tags d q ++ cells d q

-- the reference: its leaves from 0 on
unfoldable pub reference : Dealing → List ℕ
reference d = joined (leaf_part d) (2 ^ d.params.h)

-- for each chain the sum of all members' masks at the digit of a digest
unfoldable pub chain_sums : Dealing → ℕ → List ℕ → List ℕ
chain_sums d q digest =
    let mask : ℕ → ℕ → List ℕ = λ i. chain_mask d q i (digit_of d.params digest i) in
    joined (λ i. sum_of_masks d.params.n (map (mask i) (members_of d q))) d.params.p
