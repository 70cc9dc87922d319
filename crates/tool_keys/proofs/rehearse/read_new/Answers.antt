use Rattle.std.proofs.lemmas.Result.{err_from_is_err_and, IfErr-weaker, IfOk-weaker}
use Rattle.tool_base.proofs.Runs.{unchanged_on, onward_on, part_of}
use Rattle.tool_keys.specs.Steps.{all_new, not_new}
use Rattle.tool_keys.proofs.Stepping.{two_refused}
use Rattle.tool_keys.proofs.rehearse.read_new.Goals as goal

pub returns-in_err-test_two_new-clause-refused : goal.returns-in_err-test_two_new-clause-refused
returns-in_err-test_two_new-clause-refused g c =
    let p = err_from_is_err_and c.from_residual.result c.from_residual.ensures.1 in
    λ first last part. rw (p.1, p.2) (not_new _ (c.in_err-test_two_new.ensures.refused first last part))

pub returns-clause-begun : goal.returns-clause-begun
returns-clause-begun g c =
    let one = c.in_ok-test_two_new.ensures in
    let two = c.read_two.ensures in
    λ first last part.
    let new = one.new first last (part_of _ _ _ _ part.earlier (onward_on _ _ _ two.unchanged.onward part.later)) in
    IfOk-weaker c.read_two.result _ _ (λ texts read. record { new = new; read = read }) (two.bytes first last (part_of _ _ _ _ (unchanged_on _ _ _ part.earlier one.unchanged) part.later))

pub returns-clause-refused : goal.returns-clause-refused
returns-clause-refused g c =
    let one = c.in_ok-test_two_new.ensures in
    let two = c.read_two.ensures in
    λ first last part.
    let new = one.new first last (part_of _ _ _ _ part.earlier (onward_on _ _ _ two.unchanged.onward part.later)) in
    IfErr-weaker c.read_two.result _ _ (λ end fails. all_new _ _ new (two_refused _ _ _ _ _ fails)) (two.refused first last (part_of _ _ _ _ (unchanged_on _ _ _ part.earlier one.unchanged) part.later))

pub returns-clause-unchanged : goal.returns-clause-unchanged
returns-clause-unchanged g c = unchanged_on _ _ _ c.in_ok-test_two_new.ensures.unchanged c.read_two.ensures.unchanged
