use Rattle.std.proofs.Common.{string_bytes, arith}
use Rattle.std.proofs.lemmas.List.{take_all}
use Rattle.std.proofs.lemmas.List.Elements.{All-nil}
use Rattle.std.proofs.lemmas.Result.{err_from_is_err_and}
use Rattle.tool_base.specs.Outputs.{IsNew}
use Rattle.tool_base.specs.World.{from_to}
use Rattle.tool_base.proofs.Runs.{unchanged_none, unchanged_on, onward_none, part_of}
use Rattle.tool_base.proofs.Writing.{All-more, all_new_part, first_not_new}
use Rattle.tool_base.proofs.outputs.test_all_new.Goals as goal

pub outputs-init : goal.outputs-init
outputs-init g c =
    let state = g.S.Store.state in
    (unchanged_none _, All-nil (IsNew (from_to (state c.args.store.now) (state c.args.store.now))))

pub outputs-preserved : goal.outputs-preserved
outputs-preserved g c =
    let state = g.S.Store.state in
    let inv = c.outputs.invariant in
    let step = c.in_ok-test_new.ensures in
    let first = c.args.store.now in
    let new = IsNew (from_to (state first) (state first)) in
    let own : new (string_bytes c.output-item.result.name) =
    rw (← c.as_str.ensures.value) (step.new first c.test_new.new.store (part_of _ _ _ _ inv.0 (onward_none _))) in (
      unchanged_on _ _ _ inv.0 step.unchanged,
      All-more new (λ output. string_bytes output.name) c.args.outputs.now c.outputs.output-index c.output-item.result c.outputs-test.true c.output-item.is inv.1 own,
    )

pub returns-in_err-test_new-clause-refused : goal.returns-in_err-test_new-clause-refused
returns-in_err-test_new-clause-refused g c =
    let p = err_from_is_err_and c.from_residual.result c.from_residual.ensures.1 in
    let inv = c.outputs.invariant in
    λ first last part.
    let within = part_of _ _ _ _ (unchanged_on _ _ _ part.earlier inv.0) part.later in
    rw (p.1, p.2) (first_not_new _ (λ output. string_bytes output.name) c.args.outputs.now c.outputs.output-index c.output-item.result _ c.outputs-test.true c.output-item.is
    (all_new_part _ _ _ _ part _ inv.1) (rw (← c.as_str.ensures.value) (c.in_err-test_new.ensures.refused first last within)))

pub returns-clause-new : goal.returns-clause-new
returns-clause-new g c =
    let all = take_all c.outputs.output-index c.args.outputs.now (let end = c.outputs-test.false in omega arith) in
    λ first last part. all_new_part _ _ _ _ part _ (rw all at c.outputs.invariant.1)

pub returns-in_err-test_new-clause-unchanged : goal.returns-in_err-test_new-clause-unchanged
returns-in_err-test_new-clause-unchanged g c = unchanged_on _ _ _ c.outputs.invariant.0 c.in_err-test_new.ensures.unchanged

pub returns-clause-unchanged : goal.returns-clause-unchanged
returns-clause-unchanged g c = c.outputs.invariant.0

pub returns-in_err-test_new-clause-new : goal.returns-in_err-test_new-clause-new
returns-in_err-test_new-clause-new g c =
    let p = err_from_is_err_and c.from_residual.result c.from_residual.ensures.1 in
    λ first last part. rw p.1 tt
