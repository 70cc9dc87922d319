use Rattle.std.proofs.lemmas.Result.{err_from_is_err_and, IfErr-weaker, IfOk-weaker}
use Rattle.tool_keys.specs.Steps.{refused}
use Rattle.tool_keys.proofs.Rehearsing.{begun_then}
use Rattle.tool_keys.proofs.rehearse.new_outputs.Goals as goal

pub returns-in_err-seeds-clause-refused : goal.returns-in_err-seeds-clause-refused
returns-in_err-seeds-clause-refused g c =
    let p = err_from_is_err_and c.from_residual.result c.from_residual.ensures.1 in
    λ first last part. rw (p.1, p.2) (c.in_err-seeds.ensures.refused first last part)

pub returns-clause-ready : goal.returns-clause-ready
returns-clause-ready g c =
    let made = rw (c.deref.ensures.value, c.deref-2.ensures.value) at c.rehearsed_outputs.ensures.rehearsed in
    λ first last part. IfOk-weaker c.rehearsed_outputs.result _ _ (λ outputs gives. record {
      seeds = c.in_ok-seeds.seeds.items;
      text = c.in_ok-seeds.text.items;
      begun = c.in_ok-seeds.ensures.begun first last part;
      made = gives;
    })
    made

pub returns-clause-refused : goal.returns-clause-refused
returns-clause-refused g c =
    let fails = rw c.deref.ensures.value at c.rehearsed_outputs.ensures.refused in
    λ first last part. IfErr-weaker c.rehearsed_outputs.result _ _
    (λ end cause. begun_then _ _ _ _ _ _ _ _ _ (c.in_ok-seeds.ensures.begun first last part) (refused _ cause)) fails

pub returns-clause-unchanged : goal.returns-clause-unchanged
returns-clause-unchanged g c = c.in_ok-seeds.ensures.unchanged
