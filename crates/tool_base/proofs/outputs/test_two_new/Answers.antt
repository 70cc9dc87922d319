use Rattle.std.proofs.Common.{[], ◌∷◌, refl}
use Rattle.std.proofs.lemmas.List.Elements.{All-cons, All-nil}
use Rattle.std.proofs.lemmas.Result.{err_from_is_err_and, IfErr-weaker, on_ok_weaker}
use Rattle.tool_base.proofs.Runs.{unchanged_on, onward_on, part_of}
use Rattle.tool_base.specs.Outputs.{IsNew}
use Rattle.tool_base.specs.World.{from_to}
use Rattle.tool_base.proofs.outputs.test_two_new.Goals as goal

pub returns-in_err-test_new-clause-refused : goal.returns-in_err-test_new-clause-refused
returns-in_err-test_new-clause-refused g c =
    let p = err_from_is_err_and c.from_residual.result c.from_residual.ensures.1 in
    λ first last part. rw (p.1, p.2) (record {
      before = [];
      name = c.args.one.now;
      after = c.args.two.now ∷ [];
      is = refl;
      new = All-nil (IsNew (from_to (g.S.Store.state first) (g.S.Store.state last)));
      cause = c.in_err-test_new.ensures.refused first last part;
    })

pub returns-clause-new : goal.returns-clause-new
returns-clause-new g c =
    let one = c.in_ok-test_new.ensures in
    let two = c.test_new-2.ensures in
    λ first last part.
    let Fresh = IsNew (from_to (g.S.Store.state first) (g.S.Store.state last)) in
    let key = one.new first last (part_of _ _ _ _ part.earlier (onward_on _ _ _ two.unchanged.onward part.later)) in
    on_ok_weaker c.test_new-2.result (λ signature.
    All-cons Fresh c.args.one.now (c.args.two.now ∷ []) key (All-cons Fresh c.args.two.now [] signature (All-nil Fresh)))
    (two.new first last (part_of _ _ _ _ (unchanged_on _ _ _ part.earlier one.unchanged) part.later))

pub returns-clause-refused : goal.returns-clause-refused
returns-clause-refused g c =
    let one = c.in_ok-test_new.ensures in
    let two = c.test_new-2.ensures in
    λ first last part.
    let Fresh = IsNew (from_to (g.S.Store.state first) (g.S.Store.state last)) in
    let key = one.new first last (part_of _ _ _ _ part.earlier (onward_on _ _ _ two.unchanged.onward part.later)) in
    IfErr-weaker c.test_new-2.result _ _ (λ end cause. record {
      before = c.args.one.now ∷ [];
      name = c.args.two.now;
      after = [];
      is = refl;
      new = All-cons Fresh c.args.one.now [] key (All-nil Fresh);
      cause = cause;
    })
    (two.refused first last (part_of _ _ _ _ (unchanged_on _ _ _ part.earlier one.unchanged) part.later))

pub returns-in_err-test_new-clause-unchanged : goal.returns-in_err-test_new-clause-unchanged
returns-in_err-test_new-clause-unchanged g c = c.in_err-test_new.ensures.unchanged

pub returns-clause-unchanged : goal.returns-clause-unchanged
returns-clause-unchanged g c = unchanged_on _ _ _ c.in_ok-test_new.ensures.unchanged c.test_new-2.ensures.unchanged

pub returns-in_err-test_new-clause-new : goal.returns-in_err-test_new-clause-new
returns-in_err-test_new-clause-new g c =
    let p = err_from_is_err_and c.from_residual.result c.from_residual.ensures.1 in
    λ first last part. rw p.1 tt
