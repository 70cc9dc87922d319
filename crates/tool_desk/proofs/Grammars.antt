-- Files that are in a grammar, and files that are in none.
use Rattle.std.proofs.Common.{◌≡◌, ◌⊎◌, ◌++◌, ◌∙◌, ℕ, List, Option, Some, inl, inr, sym, ap, drop, subst, option_map}
use Rattle.std.proofs.Math.Seq.{drop-append_seam}
use Rattle.lms_bytes.specs.declared.params.Params.{Params}
use Rattle.share_files.specs.TreeFile.{HasTreeLayout, tree_head}
use Rattle.tool_base.specs.Ending as ending
use Rattle.tool_base.specs.Ending.{Ending}
use Rattle.tool_base.specs.Grammars.{FailsGrammar, not_in_grammar, not_read}
use Rattle.tool_base.specs.Reads.{no_memory}
use Rattle.tool_base.specs.World.{StoreRun, Bytes, IsRead}
use Rattle.tool_desk.specs.Tree.{IsTreeRead}
use Rattle.tool_desk.specs.declared.tree.DealtTree.{DealtTree}

-- a file in no grammar leads to the end that names its first fault
pub fault_told : {F : Type 0} (fault_of : List ℕ → Option F) (number_of : F → ℕ) (store : StoreRun) (name bytes : List ℕ) (fault : F) (number : ℕ) (end : Ending)
    → IsRead store name (Bytes bytes) → fault_of bytes ≡ Some fault → number ≡ number_of fault
    → (end ≡ ending.NoMemory) ⊎ (end ≡ ending.Unreadable name number)
    → FailsGrammar (λ bytes. option_map number_of (fault_of bytes)) store name end
fault_told fault_of number_of store name bytes fault number end read is counted (inl none) = rw none (not_read _ no_memory)
fault_told fault_of number_of store name bytes fault number end read is counted (inr told) =
    rw (told, counted) (not_in_grammar bytes (number_of fault) read (ap (option_map number_of) is))

-- a file in a grammar is read as what it is
pub read_as : (store : StoreRun) (name bytes other : List ℕ) → IsRead store name (Bytes bytes) → bytes ≡ other → IsRead store name (Bytes other)
read_as store name bytes other read is = subst (λ (l : List ℕ). IsRead store name (Bytes l)) is read

-- the nodes are what follows the head of a tree file
pub nodes_behind_head : (params : Params) (bytes id nodes : List ℕ) → HasTreeLayout params bytes id nodes → drop 32 bytes ≡ nodes
nodes_behind_head params bytes id nodes layout =
    ap (drop 32) layout.parts ∙ subst (λ (n : ℕ). drop n (id ++ nodes) ≡ nodes) layout.id_length (drop-append_seam id nodes)

pub tree_read : (store : StoreRun) (name bytes nodes : List ℕ) (tree : DealtTree) → IsRead store name (Bytes bytes) → HasTreeLayout tree.params bytes tree.id nodes
    → tree.nodes.nodes ≡ nodes → IsTreeRead store name tree
tree_read store name bytes nodes tree read layout is = record {
  read = read_as store name bytes _ read (layout.parts ∙ ap (λ (l : List ℕ). tree_head tree.params tree.id ++ l) (sym is));
  dealt = layout.dealt;
}
