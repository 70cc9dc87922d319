-- References and commitments by their head and length.
use Rattle.std.proofs.Common.{◌≡◌, ◌≤◌, ◌∙◌, ℕ, true, false, Bool, List, length, take, drop, option_map, Some, None, ap, refl, sym, subst, arith}
use Rattle.std.proofs.lemmas.Bool.{le-ltb}
use Rattle.std.proofs.lemmas.List.{length-take}
use Rattle.std.proofs.lemmas.Slice.Eq.{bytes_eq-Decides}
use Rattle.share_files.specs.Commits.{commits_head, commits_head_fault, commits_length, commits_magic}
use Rattle.share_files.specs.FaultNumbers.{file_fault_number}
use Rattle.share_files.specs.Head.{short_fault}
use Rattle.share_files.specs.Reference.{reference_head, reference_head_fault, reference_length, reference_magic}
use Rattle.share_files.specs.Sets.{CanBeDealt}
use Rattle.share_files.specs.declared.faults.FileFault.{FileFault}
use Rattle.share_files.specs.declared.reference.RefHeader.{RefHeader}
use Rattle.share_files.proofs.FirstFault.{first_fault-failed, first_fault-passed}
use Rattle.std.specs.Prelude.{codes}
use Rattle.tool_base.specs.Contents.{HasHead}
use Rattle.tool_base.proofs.Fronts.{layout-by-head, refused-by-head, same-letters}
use Rattle.tool_show.specs.Kinds.{IsCommitments, IsReference, begins_with, commits_fault, fault_as, kind_of, show_fault}
use Rattle.tool_show.specs.Lines.{header_line}
use Rattle.tool_show.specs.Shown.{HasCommitsHead, IsShown}
use Rattle.tool_show.specs.Shown as shown
use Rattle.tool_show.proofs.Showing.{of_kind}

reference-kind : (file : List ℕ) → begins_with reference_magic file ≡ true → kind_of file ≡ Some IsReference
unfolding kind_of
reference-kind file begins =
    let is : take 4 file ≡ reference_magic = sym ((bytes_eq-Decides reference_magic (take 4 file)).0 begins) in
    rw is refl

commits-kind : (file : List ℕ) → begins_with commits_magic file ≡ true → kind_of file ≡ Some IsCommitments
unfolding kind_of
commits-kind file begins =
    let is : take 4 file ≡ commits_magic = sym ((bytes_eq-Decides commits_magic (take 4 file)).0 begins) in
    rw is refl

module _ (head : List ℕ) (got : ℕ) (size : length head ≡ 32) (file : List ℕ) (has : HasHead head file) (is : length file ≡ got) where
  long : 32 ≤ length file
  long = let cut = ap length has ∙ size in let least = length-take 32 file in omega (arith, cut, least)

  pub reference_shown : (header : RefHeader) (leaves : Bool) → begins_with reference_magic head ≡ true → head ≡ reference_head header → got ≡ reference_length header
      → CanBeDealt header.params → IsShown file leaves (header_line (codes "reference") header got)
  reference_shown header leaves begins parts many dealt =
      subst (λ (n : ℕ). IsShown file leaves (header_line (codes "reference") header n)) is
      (shown.reference header (drop 32 file) (reference-kind file (same-letters reference_magic head file has ∙ begins))
      (layout-by-head file head got header (sym is) (sym has) parts many dealt))

  pub reference_refused : (fault : FileFault) → begins_with reference_magic head ≡ true → reference_head_fault head got ≡ Some fault
      → show_fault file ≡ Some (file_fault_number fault)
  reference_refused fault begins fails =
      of_kind file (Some IsReference) (file_fault_number fault) (reference-kind file (same-letters reference_magic head file has ∙ begins))
      (ap (option_map file_fault_number) (refused-by-head file head got fault (sym is) (rw is at long) (sym has) fails))

  pub commits_shown : (header : RefHeader) (leaves : Bool) → begins_with commits_magic head ≡ true → head ≡ commits_head header
      → got ≡ commits_length header.params header.plan → CanBeDealt header.params → IsShown file leaves (header_line (codes "commitments") header got)
  commits_shown header leaves begins parts many dealt =
      subst (λ (n : ℕ). IsShown file leaves (header_line (codes "commitments") header n)) is
      (shown.commitments header (commits-kind file (same-letters commits_magic head file has ∙ begins))
      (record { dealt = dealt; head = has ∙ parts; size = is ∙ many }))

  faulty-commits : (fault : FileFault) → commits_head_fault head got ≡ Some fault → commits_fault file ≡ Some fault
  unfolding commits_fault
  faulty-commits fault fails =
      let test : short_fault 32 file ≡ None = rw (le-ltb (length file) 32 long) refl in
      let rest : commits_head_fault (take 32 file) (length file) ≡ Some fault = rw (has, is) fails in
      first_fault-passed _ _ test ∙ first_fault-failed _ _ _ rest

  pub commits_refused : (fault : FileFault) → begins_with commits_magic head ≡ true → commits_head_fault head got ≡ Some fault
      → show_fault file ≡ Some (file_fault_number fault)
  commits_refused fault begins fails =
      of_kind file (Some IsCommitments) (file_fault_number fault) (commits-kind file (same-letters commits_magic head file has ∙ begins))
      (ap (option_map file_fault_number) (faulty-commits fault fails))
