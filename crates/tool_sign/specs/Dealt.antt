-- Sessions over what a dealer made.
use Rattle.std.specs.Prelude.{◌≡◌, ℕ, List, IsTrue}
use Rattle.aggregator_session.specs.Runs.{CellsRead}
use Rattle.lms_verify.specs.UndividedKey.{UndividedKey, leaf_key}
use Rattle.merkle_path.specs.Tree.{TreeNodes, tree_of}
use Rattle.reference_value.specs.Dealing.{Dealing, reference}
use Rattle.session_core.specs.Dealing.{FirstMasks, IsOfDealing, SecondMasks}
use Rattle.session_core.specs.State.{State}
use Rattle.session_core.specs.Verdicts.{digest_of}

-- A session is of the dealing's key and plan, its reference and tree are the dealer's, and at its end it has kept each
-- member's own masks as its first reply in both rounds.
pub record IsDealt (d : Dealing) (key : UndividedKey) (reads : CellsRead) (tree : TreeNodes) (message : List ℕ)
    (s last : State) : Type 0 where
  pub told : IsTrue reads.told
  pub leaves_are : reads.leaves ≡ reference d
  pub tree_is : tree ≡ tree_of key.params key.id (leaf_key key)
  pub dealing : IsOfDealing d key s
  pub first : FirstMasks d last
  pub second : SecondMasks d last (digest_of last message)
