use Rattle.std.proofs.Common.{◌≡◌, Some, ap, arith, length, option_map, refl, rules}
use Rattle.std.proofs.lemmas.Result.{err_from_is_err_and}
use Rattle.share_files.specs.FaultNumbers.{file_fault_number}
use Rattle.tool_show.specs.Kinds.{IsCommitments, IsReference, IsShare, IsTree, kind_of}
use Rattle.tool_show.specs.Shown as shown
use Rattle.tool_show.proofs.Showing.{faulty, has_root}
use Rattle.tool_show.proofs.bytes_shown.show_bytes.Goals as goal

pub returns-in_err-share-clause-refused : goal.returns-in_err-share-clause-refused
unfolding kind_of
returns-in_err-share-clause-refused c =
    let kind : kind_of c.args.bytes.items ≡ Some IsShare = search rules in
    let p = err_from_is_err_and c.from_residual.result c.from_residual.ensures.1 in
    rw (p.1, p.2) (faulty _ IsShare _ _ kind (rw (← c.deref-then-starts_with.ensures.value) (ap (option_map file_fault_number) c.in_err-share.ensures.refused)) refl)

pub returns-then-starts_with-clause-shown : goal.returns-then-starts_with-clause-shown
unfolding kind_of
returns-then-starts_with-clause-shown c =
    let kind : kind_of c.args.bytes.items ≡ Some IsShare = search rules in
    rw c.in_ok-share_line.ensures (shown.share c.in_ok-share.share kind (rw (← c.deref-then-starts_with.ensures.value) c.in_ok-share.ensures.share) c.in_ok-share.ensures.dealt)

pub returns-in_err-tree-clause-refused : goal.returns-in_err-tree-clause-refused
unfolding kind_of
returns-in_err-tree-clause-refused c =
    let kind : kind_of c.args.bytes.items ≡ Some IsTree = search rules in
    let p = err_from_is_err_and c.from_residual-in_err-tree.result c.from_residual-in_err-tree.ensures.1 in
    rw (p.1, p.2) (faulty _ IsTree _ _ kind (rw (← c.deref-then-starts_with-2.ensures.value) (ap (option_map file_fault_number) c.in_err-tree.ensures.refused)) refl)

pub tree_line-requires : goal.tree_line-requires
tree_line-requires c = has_root _ _ _ _ c.in_ok-tree.ensures.layout

pub returns-then-starts_with-2-clause-shown : goal.returns-then-starts_with-2-clause-shown
unfolding kind_of
returns-then-starts_with-2-clause-shown c =
    let kind : kind_of c.args.bytes.items ≡ Some IsTree = search rules in
    rw c.in_ok-tree_line.ensures (shown.tree c.in_ok-tree.tree.params c.in_ok-tree.tree.id c.in_ok-tree.tree.nodes.now kind (rw (← c.deref-then-starts_with-2.ensures.value) c.in_ok-tree.ensures.layout))

pub returns-in_err-header-clause-refused : goal.returns-in_err-header-clause-refused
unfolding kind_of
returns-in_err-header-clause-refused c =
    let kind : kind_of c.args.bytes.items ≡ Some IsReference = search rules in
    let p = err_from_is_err_and c.from_residual-in_err-header.result c.from_residual-in_err-header.ensures.1 in
    rw (p.1, p.2) (faulty _ IsReference _ _ kind (rw (← c.deref-then-starts_with-3.ensures.value) (ap (option_map file_fault_number) c.in_err-header.ensures.refused)) refl)

pub returns-then-starts_with-3-clause-shown : goal.returns-then-starts_with-3-clause-shown
unfolding kind_of
returns-then-starts_with-3-clause-shown c =
    let kind : kind_of c.args.bytes.items ≡ Some IsReference = search rules in
    let size : c.len.result ≡ length c.args.bytes.items = (let is = c.len.ensures in let ok = c.args.bytes.ok.0 in omega (arith, is, ok)) in
    rw (c.in_ok-header_line.ensures, size) (shown.reference c.in_ok-header.header c.in_ok-header.ensures.layout.0 kind (rw (← c.deref-then-starts_with-3.ensures.value) c.in_ok-header.ensures.layout.1))

pub returns-in_err-header-2-clause-refused : goal.returns-in_err-header-2-clause-refused
unfolding kind_of
returns-in_err-header-2-clause-refused c =
    let kind : kind_of c.args.bytes.items ≡ Some IsCommitments = search rules in
    let p = err_from_is_err_and c.from_residual-in_err-header-2.result c.from_residual-in_err-header-2.ensures.1 in
    rw (p.1, p.2) (faulty _ IsCommitments _ _ kind (rw (← c.deref-then-starts_with-4.ensures.value) (ap (option_map file_fault_number) c.in_err-header-2.ensures.refused)) refl)

pub returns-then-starts_with-4-clause-shown : goal.returns-then-starts_with-4-clause-shown
unfolding kind_of
returns-then-starts_with-4-clause-shown c =
    let kind : kind_of c.args.bytes.items ≡ Some IsCommitments = search rules in
    let size : c.len-then-starts_with-4.result ≡ length c.args.bytes.items = (let is = c.len-then-starts_with-4.ensures in let ok = c.args.bytes.ok.0 in omega (arith, is, ok)) in
    rw (c.in_ok-header_line-2.ensures, size) (shown.commitments c.in_ok-header-2.header kind (rw (← c.deref-then-starts_with-4.ensures.value) c.in_ok-header-2.ensures.header))
