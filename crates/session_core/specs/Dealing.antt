-- A session over what a dealer made, in which each member has answered with its own masks.
use Rattle.std.specs.Prelude.{◌≡◌, ℕ, List, All, Some}
use Rattle.coalition_map.specs.Coalitions.{IsPlan}
use Rattle.lms_bytes.specs.Bytes.{joined}
use Rattle.lms_bytes.specs.Digits.{digit_of}
use Rattle.lms_verify.specs.UndividedKey.{UndividedKey, leaf_key}
use Rattle.merkle_path.specs.Nodes.{root}
use Rattle.merkle_path.specs.Tree.{TreeNodes, tree_of}
use Rattle.reference_value.specs.Dealing.{Dealing, chain_mask, leaf_randomizer, random_mask, reference}
use Rattle.session_core.specs.Seats.{Seat}
use Rattle.session_core.specs.State.{State}

-- the session is of the dealing's key and plan, and the undivided key is that of the dealing (RFC 8554 appendix A)
pub record IsOfDealing (d : Dealing) (key : UndividedKey) (s : State) : Type 0 where
  pub plan_is : IsPlan d.plan
  pub plan : s.plan ≡ d.plan
  pub params : s.key.params ≡ d.params
  pub id : s.key.id ≡ d.id
  pub root_is : s.key.root ≡ root key.params key.id (leaf_key key)
  pub key_params : key.params ≡ d.params
  pub key_id : key.id ≡ d.id
  pub key_seed : key.seed ≡ d.seed

-- the masks that trustee t has for the values of all chains of leaf q at the digits of the digest
abbrev pub digit_masks : Dealing → ℕ → List ℕ → ℕ → List ℕ
digit_masks d q digest t = joined (λ i. chain_mask d q i (digit_of d.params digest i) t) d.params.p

-- each member's first reply of round one is its mask of the randomizer
abbrev pub FirstMasks : Dealing → State → Type 0
FirstMasks d s = All (λ (seat : Seat). (seat.code ≡ Some 0) × (seat.body ≡ random_mask d s.leaf seat.member)) s.first

-- each member's first reply of round two is its masks at the digits of this digest
abbrev pub SecondMasks : Dealing → State → List ℕ → Type 0
SecondMasks d s digest =
    All (λ (seat : Seat). (seat.code ≡ Some 0) × (seat.body ≡ digit_masks d s.leaf digest seat.member)) s.second

-- all that a signature of the undivided key needs: the dealer's reference and tree, and in round two the dealer's
-- randomizer and the members' masks for this digest
pub record IsAnswered
    (d : Dealing) (key : UndividedKey) (s : State) (digest leaves : List ℕ) (tree : TreeNodes) : Type 0 where
  pub dealing : IsOfDealing d key s
  pub leaves_are : leaves ≡ reference d
  pub tree_is : tree ≡ tree_of key.params key.id (leaf_key key)
  pub c : s.c ≡ Some (leaf_randomizer d s.leaf)
  pub masks : SecondMasks d s digest
