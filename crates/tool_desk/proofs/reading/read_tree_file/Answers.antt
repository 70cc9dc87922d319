use Rattle.std.proofs.Common.{◌∙◌, ap, drop, sym}
use Rattle.std.proofs.lemmas.Result.{err_from_is_err_and}
use Rattle.merkle_path.specs.Tree.{TreeNodes}
use Rattle.share_files.specs.FaultNumbers.{file_fault_number}
use Rattle.share_files.specs.TreeFile.{tree_fault}
use Rattle.tool_base.specs.Grammars.{not_read}
use Rattle.tool_desk.proofs.Grammars.{fault_told, nodes_behind_head, tree_read}
use Rattle.tool_desk.proofs.reading.read_tree_file.Goals as goal

pub returns-in_err-bytes-clause-refused : goal.returns-in_err-bytes-clause-refused
returns-in_err-bytes-clause-refused g c =
    let p = err_from_is_err_and c.from_residual.result c.from_residual.ensures.1 in
    λ first last part. rw (p.1, p.2) (not_read _ (c.in_err-bytes.ensures.refused first last part))

pub returns-in-Err-clause-refused : goal.returns-in-Err-clause-refused
returns-in-Err-clause-refused g c =
    λ first last part. fault_told tree_fault file_fault_number _ _ c.deref.result.now c.in-Err.fault c.number.result _
    (rw c.deref.ensures.value (c.in_ok-bytes.ensures.bytes first last part)) c.in-Err.ensures.refused c.number.ensures c.unreadable.ensures

pub returns-in_err-bytes-clause-tree : goal.returns-in_err-bytes-clause-tree
returns-in_err-bytes-clause-tree g c =
    let p = err_from_is_err_and c.from_residual.result c.from_residual.ensures.1 in
    λ first last part. rw p.1 tt

pub returns-in_err-bytes-clause-unchanged : goal.returns-in_err-bytes-clause-unchanged
returns-in_err-bytes-clause-unchanged g c = c.in_err-bytes.ensures.unchanged

pub returns-in-Err-clause-unchanged : goal.returns-in-Err-clause-unchanged
returns-in-Err-clause-unchanged g c = c.in_ok-bytes.ensures.unchanged

pub returns-clause-unchanged : goal.returns-clause-unchanged
returns-clause-unchanged g c = c.in_ok-bytes.ensures.unchanged

pub returns-clause-tree : goal.returns-clause-tree
returns-clause-tree g c =
    λ first last part. tree_read _ _ c.deref.result.now c.in-Ok.view.nodes.now _
    (rw c.deref.ensures.value (c.in_ok-bytes.ensures.bytes first last part)) c.in-Ok.ensures.layout
    (ap (λ (t : TreeNodes). t.nodes) c.behind-nodes.ensures ∙ ap (drop 32) (sym c.deref.ensures.value)
    ∙ nodes_behind_head _ _ _ _ c.in-Ok.ensures.layout)
