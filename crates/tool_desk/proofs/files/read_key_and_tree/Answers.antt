use Rattle.std.proofs.Common.{◌≡◌, ◌∙◌}
use Rattle.std.proofs.lemmas.Result.{err_from_is_err_and}
use Rattle.tool_base.specs.Grammars.{not_read}
use Rattle.tool_base.specs.Reads.{no_memory}
use Rattle.tool_base.proofs.Runs.{unchanged_none, unchanged_on, onward_on, part_of}
use Rattle.tool_desk.specs.Files.{key_name, no_key, no_tree, tree_name}
use Rattle.tool_desk.proofs.files.read_key_and_tree.Goals as goal

pub returns-in_err-name-clause-refused : goal.returns-in_err-name-clause-refused
returns-in_err-name-clause-refused g c =
    let p = err_from_is_err_and c.from_residual.result c.from_residual.ensures.1 in
    λ first last part. rw (p.1, p.2, c.in_err-name.ensures.refused) (no_key _ (not_read _ no_memory))

pub returns-in_err-key-clause-refused : goal.returns-in_err-key-clause-refused
returns-in_err-key-clause-refused g c =
    let p = err_from_is_err_and c.from_residual-in_err-key.result c.from_residual-in_err-key.ensures.1 in
    let name : c.as_str.result.now ≡ key_name c.args.prefix.now = c.as_str.ensures.value ∙ c.in_ok-name.ensures.name in
    λ first last part. rw (p.1, p.2) (no_key _ (rw name at (c.in_err-key.ensures.refused first last part)))

pub returns-in_err-name-2-clause-refused : goal.returns-in_err-name-2-clause-refused
returns-in_err-name-2-clause-refused g c =
    let p = err_from_is_err_and c.from_residual-in_err-name-2.result c.from_residual-in_err-name-2.ensures.1 in
    λ first last part. rw (p.1, p.2, c.in_err-name-2.ensures.refused) (no_key _ (not_read _ no_memory))

pub returns-in_err-tree-clause-refused : goal.returns-in_err-tree-clause-refused
returns-in_err-tree-clause-refused g c =
    let p = err_from_is_err_and c.from_residual-in_err-tree.result c.from_residual-in_err-tree.ensures.1 in
    let name : c.as_str.result.now ≡ key_name c.args.prefix.now = c.as_str.ensures.value ∙ c.in_ok-name.ensures.name in
    let other : c.as_str-2.result.now ≡ tree_name c.args.prefix.now = c.as_str-2.ensures.value ∙ c.in_ok-name-2.ensures.name in
    let one = c.in_ok-key.ensures in
    let two = c.in_err-tree.ensures in
    λ first last part.
    let key = one.key first last (part_of _ _ _ _ part.earlier (onward_on _ _ _ two.unchanged.onward part.later)) in
    let tree = two.refused first last (part_of _ _ _ _ (unchanged_on _ _ _ part.earlier one.unchanged) part.later) in
    rw (p.1, p.2) (no_tree c.in_ok-key.key _ (rw name at key) (rw other at tree))

pub returns-in_err-tree-clause-unchanged : goal.returns-in_err-tree-clause-unchanged
returns-in_err-tree-clause-unchanged g c = unchanged_on _ _ _ c.in_ok-key.ensures.unchanged c.in_err-tree.ensures.unchanged

pub returns-clause-files : goal.returns-clause-files
returns-clause-files g c =
    let name : c.as_str.result.now ≡ key_name c.args.prefix.now = c.as_str.ensures.value ∙ c.in_ok-name.ensures.name in
    let other : c.as_str-2.result.now ≡ tree_name c.args.prefix.now = c.as_str-2.ensures.value ∙ c.in_ok-name-2.ensures.name in
    let one = c.in_ok-key.ensures in
    let two = c.in_ok-tree.ensures in
    λ first last part.
    let key = one.key first last (part_of _ _ _ _ part.earlier (onward_on _ _ _ two.unchanged.onward part.later)) in
    let tree = two.tree first last (part_of _ _ _ _ (unchanged_on _ _ _ part.earlier one.unchanged) part.later) in
    record { key = rw name at key; tree = rw other at tree }

pub returns-clause-unchanged : goal.returns-clause-unchanged
returns-clause-unchanged g c = unchanged_on _ _ _ c.in_ok-key.ensures.unchanged c.in_ok-tree.ensures.unchanged

pub returns-in_err-name-clause-unchanged : goal.returns-in_err-name-clause-unchanged
returns-in_err-name-clause-unchanged g c = unchanged_none _

pub returns-in_err-key-clause-unchanged : goal.returns-in_err-key-clause-unchanged
returns-in_err-key-clause-unchanged g c = c.in_err-key.ensures.unchanged

pub returns-in_err-name-2-clause-unchanged : goal.returns-in_err-name-2-clause-unchanged
returns-in_err-name-2-clause-unchanged g c = c.in_ok-key.ensures.unchanged

pub returns-in_err-name-clause-files : goal.returns-in_err-name-clause-files
returns-in_err-name-clause-files g c =
    let p = err_from_is_err_and c.from_residual.result c.from_residual.ensures.1 in
    λ first last part. rw p.1 tt

pub returns-in_err-key-clause-files : goal.returns-in_err-key-clause-files
returns-in_err-key-clause-files g c =
    let p = err_from_is_err_and c.from_residual-in_err-key.result c.from_residual-in_err-key.ensures.1 in
    λ first last part. rw p.1 tt

pub returns-in_err-name-2-clause-files : goal.returns-in_err-name-2-clause-files
returns-in_err-name-2-clause-files g c =
    let p = err_from_is_err_and c.from_residual-in_err-name-2.result c.from_residual-in_err-name-2.ensures.1 in
    λ first last part. rw p.1 tt

pub returns-in_err-tree-clause-files : goal.returns-in_err-tree-clause-files
returns-in_err-tree-clause-files g c =
    let p = err_from_is_err_and c.from_residual-in_err-tree.result c.from_residual-in_err-tree.ensures.1 in
    λ first last part. rw p.1 tt
