-- The files of a dealing with which an aggregator signs: PREFIX.pub, PREFIX.tree and PREFIX.ref.
use Rattle.std.specs.Prelude.{◌≡◌, ℕ, List, ◌++◌, codes}
use Rattle.lms_bytes.specs.declared.params.Params.{Params}
use Rattle.lms_bytes.specs.declared.public_key.PublicKey.{PublicKey}
use Rattle.mask_prf.specs.Lengths.{leaves_length}
use Rattle.share_files.specs.declared.reference.RefHeader.{RefHeader}
use Rattle.tool_base.specs.Ending as ending
use Rattle.tool_base.specs.Ending.{Ending}
use Rattle.tool_base.specs.World.{StoreRun}
use Rattle.tool_desk.specs.Key.{FailsKey, IsKeyRead}
use Rattle.tool_desk.specs.Tree.{FailsTree, IsTreeRead}
use Rattle.tool_desk.specs.declared.files.KeyFiles.{KeyFiles}

-- the names of the files of a dealing
abbrev pub key_name : List ℕ → List ℕ
key_name prefix = prefix ++ codes ".pub"

abbrev pub tree_name : List ℕ → List ℕ
tree_name prefix = prefix ++ codes ".tree"

abbrev pub reference_name : List ℕ → List ℕ
reference_name prefix = prefix ++ codes ".ref"

-- the files are this key and this tree
pub record AreKeyFiles (store : StoreRun) (prefix : List ℕ) (files : KeyFiles) : Type 0 where
  pub key : IsKeyRead store (key_name prefix) files.key
  pub tree : IsTreeRead store (tree_name prefix) files.tree

-- the end if the key or the tree could not be read; the key is read and tested before the tree is read
pub data FailsKeyFiles (store : StoreRun) (prefix : List ℕ) : Ending → Type 0 where
  no_key : (end : Ending) → FailsKey store (key_name prefix) end → FailsKeyFiles store prefix end
  no_tree : (key : PublicKey) (end : Ending) → IsKeyRead store (key_name prefix) key
      → FailsTree store (tree_name prefix) end → FailsKeyFiles store prefix end

-- a file with the typecodes of this set and this identifier is of this key
pub record IsOfKey (key : PublicKey) (params : Params) (id : List ℕ) : Type 0 where
  pub lms : params.lms ≡ key.params.lms
  pub ots : params.ots ≡ key.params.ots
  pub id_is : id ≡ key.id

-- the tree and the reference are of the key
pub record AreOfOneKey (files : KeyFiles) (reference : RefHeader) : Type 0 where
  pub tree : IsOfKey files.key files.tree.params files.tree.id
  pub reference_is : IsOfKey files.key reference.params reference.id

-- what follows from the typecodes: the tree and the plan have the key's sizes, and so has the reference
pub record HaveSizesOf (files : KeyFiles) (reference : RefHeader) : Type 0 where
  pub node_length : files.tree.nodes.n ≡ files.key.params.n
  pub tree_height : files.tree.nodes.h ≡ files.key.params.h
  pub plan_height : reference.plan.h ≡ files.key.params.h
  pub leaves : leaves_length reference.params reference.plan ≡ leaves_length files.key.params reference.plan

-- the end if the tree, or else the reference, is of another key: fault 7 of the file
pub data IsOfOtherKey (prefix : List ℕ) (files : KeyFiles) (reference : RefHeader) : Ending → Type 0 where
  other_tree : (IsOfKey files.key files.tree.params files.tree.id → ⊥)
      → IsOfOtherKey prefix files reference (ending.Unreadable (tree_name prefix) 7)
  other_reference : IsOfKey files.key files.tree.params files.tree.id
      → (IsOfKey files.key reference.params reference.id → ⊥)
      → IsOfOtherKey prefix files reference (ending.Unreadable (reference_name prefix) 7)
  no_memory : IsOfOtherKey prefix files reference ending.NoMemory
