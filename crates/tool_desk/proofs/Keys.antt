-- Files that are of one key, and files that are not.
use Rattle.std.proofs.Common.{◌≡◌, ◌↔◌, ◌⊎◌, ℕ, List, Bool, false, IsTrue, inl, inr, refl, sym, ap, ◌∙◌}
use Rattle.std.proofs.lemmas.Bool.{false≢true}
use Rattle.lms_bytes.specs.declared.params.Params.{Params}
use Rattle.share_files.specs.declared.reference.RefHeader.{RefHeader}
use Rattle.share_files.specs.Sets.{chain_count, height_of, node_length, width_of}
use Rattle.share_files.proofs.Dealt.{chain_count-ots, height_of-lms, node_length-lms, width_of-ots}
use Rattle.tool_base.specs.Ending as ending
use Rattle.tool_base.specs.Ending.{Ending}
use Rattle.tool_desk.specs.Files.{AreOfOneKey, HaveSizesOf, IsOfKey, IsOfOtherKey, no_memory, other_reference, other_tree, reference_name, tree_name}
use Rattle.tool_desk.specs.declared.files.KeyFiles.{KeyFiles}

-- the end if a file is of another key
pub tree_refused : (prefix : List ℕ) (files : KeyFiles) (reference : RefHeader) (answer : Bool) (end : Ending)
    → (IsTrue answer ↔ IsOfKey files.key files.tree.params files.tree.id) → answer ≡ false
    → (end ≡ ending.NoMemory) ⊎ (end ≡ ending.Unreadable (tree_name prefix) 7) → IsOfOtherKey prefix files reference end
tree_refused prefix files reference answer end test is (inl none) = rw none no_memory
tree_refused prefix files reference answer end test is (inr told) = rw told (other_tree (λ of. false≢true (sym is ∙ test.1 of)))

pub reference_refused : (prefix : List ℕ) (files : KeyFiles) (reference : RefHeader) (answer : Bool) (end : Ending)
    → IsOfKey files.key files.tree.params files.tree.id → (IsTrue answer ↔ IsOfKey files.key reference.params reference.id) → answer ≡ false
    → (end ≡ ending.NoMemory) ⊎ (end ≡ ending.Unreadable (reference_name prefix) 7) → IsOfOtherKey prefix files reference end
reference_refused prefix files reference answer end tree test is (inl none) = rw none no_memory
reference_refused prefix files reference answer end tree test is (inr told) = rw told (other_reference tree (λ of. false≢true (sym is ∙ test.1 of)))

-- sets with the same typecodes have the same sizes
same_height : (a b : Params) → a.lms ≡ b.lms → a.h ≡ b.h
same_height a b lms = sym (height_of-lms a) ∙ (ap height_of lms ∙ height_of-lms b)

same_length : (a b : Params) → a.lms ≡ b.lms → a.n ≡ b.n
same_length a b lms = sym (node_length-lms a) ∙ (ap node_length lms ∙ node_length-lms b)

same_width : (a b : Params) → a.ots ≡ b.ots → a.w ≡ b.w
same_width a b ots = sym (width_of-ots a) ∙ (ap width_of ots ∙ width_of-ots b)

same_count : (a b : Params) → a.ots ≡ b.ots → a.p ≡ b.p
same_count a b ots = sym (chain_count-ots a) ∙ (ap chain_count ots ∙ chain_count-ots b)

pub sizes : (files : KeyFiles) (reference : RefHeader) → AreOfOneKey files reference → HaveSizesOf files reference
sizes files reference same = record {
  node_length = files.tree.hash_length ∙ same_length files.tree.params files.key.params same.tree.lms;
  tree_height = files.tree.height ∙ same_height files.tree.params files.key.params same.tree.lms;
  plan_height = reference.height ∙ same_height reference.params files.key.params same.reference_is.lms;
  leaves =
      let n = same_length reference.params files.key.params same.reference_is.lms in
      let h = same_height reference.params files.key.params same.reference_is.lms in
      let w = same_width reference.params files.key.params same.reference_is.ots in
      let p = same_count reference.params files.key.params same.reference_is.ots in
      rw (n, h, w, p) refl;
}
