-- The tree of a dealing, read from its file.
use Rattle.std.specs.Prelude.{ℕ, List, ◌++◌, Option, option_map}
use Rattle.share_files.specs.FaultNumbers.{file_fault_number}
use Rattle.share_files.specs.Sets.{CanBeDealt}
use Rattle.share_files.specs.TreeFile.{tree_fault, tree_head}
use Rattle.tool_base.specs.Ending.{Ending}
use Rattle.tool_base.specs.Grammars.{FailsGrammar}
use Rattle.tool_base.specs.World.{StoreRun, Bytes, IsRead}
use Rattle.tool_desk.specs.declared.tree.DealtTree.{DealtTree}

-- the tree file of this set, identifier and nodes
abbrev pub tree_bytes : DealtTree → List ℕ
tree_bytes tree = tree_head tree.params tree.id ++ tree.nodes.nodes

-- the file of this name is this tree
pub record IsTreeRead (store : StoreRun) (name : List ℕ) (tree : DealtTree) : Type 0 where
  pub read : IsRead store name (Bytes (tree_bytes tree))
  pub dealt : CanBeDealt tree.params

-- the number of the first fault of bytes as a tree file
abbrev pub tree_file_fault : List ℕ → Option ℕ
tree_file_fault bytes = option_map file_fault_number (tree_fault bytes)

-- the end if the file of this name could not be read, or is no tree
abbrev pub FailsTree : StoreRun → List ℕ → Ending → Type 0
FailsTree = FailsGrammar tree_file_fault
