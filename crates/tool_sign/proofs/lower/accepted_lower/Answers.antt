use Rattle.std.proofs.Common.{◌≡◌, inl, inr, refl}
use Rattle.std.proofs.lemmas.Result.{err_from_is_err_and}
use Rattle.tool_base.proofs.Runs.{unchanged_none, unchanged_on, onward_none, onward_on, part_of}
use Rattle.tool_base.specs.Ending.{Verified, status_of}
use Rattle.tool_sign.proofs.HssWhole.{unbegun}
use Rattle.tool_sign.specs.HssSign.{no_lower, not_accepted, not_new}
use Rattle.tool_sign.specs.Lower.{lower_of}
use Rattle.tool_words.specs.Rows.{hss_sign_words}
use Rattle.tool_sign.proofs.lower.accepted_lower.Goals as goal

pub returns-in_err-test_two_new-clause-refused : goal.returns-in_err-test_two_new-clause-refused
returns-in_err-test_two_new-clause-refused g c =
    let p = err_from_is_err_and c.from_residual.result c.from_residual.ensures.1 in
    let tested = c.in_err-test_two_new.ensures in
    λ net. rw (p.1, p.2) (unbegun (hss_sign_words c.args.words.now) _ _ net _ tested.unchanged
    (not_new _ (tested.refused c.args.store.now c.test_two_new.new.store (part_of _ _ _ _ (unchanged_none _) (onward_none _))) refl))

pub returns-in_err-lower-clause-refused : goal.returns-in_err-lower-clause-refused
returns-in_err-lower-clause-refused g c =
    let p = err_from_is_err_and c.from_residual-in_err-lower.result c.from_residual-in_err-lower.ensures.1 in
    let first = c.args.store.now in
    let last = c.read_lower.new.store in
    let tested = c.in_ok-test_two_new.ensures in
    let read = c.in_err-lower.ensures in
    λ net. rw (p.1, p.2) (unbegun (hss_sign_words c.args.words.now) _ _ net _ (unchanged_on _ _ _ tested.unchanged read.unchanged)
    (no_lower _ (tested.new first last (part_of _ _ _ _ (unchanged_none _) read.unchanged.onward)) (read.refused first last (part_of _ _ _ _ tested.unchanged (onward_none _))) refl))

pub returns-in-Accepted-clause-ready : goal.returns-in-Accepted-clause-ready
returns-in-Accepted-clause-ready g c = λ last onward.
    let first = c.args.store.now in
    let tested = c.in_ok-test_two_new.ensures in
    let read = c.in_ok-lower.ensures in
    record {
      new = tested.new first last (part_of _ _ _ _ (unchanged_none _) (onward_on _ _ _ read.unchanged.onward onward));
      read = read.lower first last (part_of _ _ _ _ tested.unchanged onward);
      accepted = (c.in-Accepted.leaf, rw (← c.deref.ensures.value, ← c.deref-2.ensures.value) c.in-Accepted.ensures.verdict);
    }

pub returns-in-Accepted-clause-unchanged : goal.returns-in-Accepted-clause-unchanged
returns-in-Accepted-clause-unchanged g c = unchanged_on _ _ _ c.in_ok-test_two_new.ensures.unchanged c.in_ok-lower.ensures.unchanged

pub returns-in-Malformed : goal.returns-in-Malformed
returns-in-Malformed g c =
    let first = c.args.store.now in
    let last = c.read_lower.new.store in
    let tested = c.in_ok-test_two_new.ensures in
    let read = c.in_ok-lower.ensures in
    let unchanged = unchanged_on _ _ _ tested.unchanged read.unchanged in
    let says = c.verify-verdict.result in
    let refused : status_of (Verified says) ≡ 1 = elim c.in-Malformed.is [
      | inl malformed ↦ rw malformed.1 refl
      | inr other ↦ rw other.2 refl
    ] in
    record {
      ready = λ later onward. tt;
      refused = λ net. unbegun (hss_sign_words c.args.words.now) _ _ net _ unchanged
          (not_accepted (lower_of c.in_ok-lower.lower) says (tested.new first last (part_of _ _ _ _ (unchanged_none _) read.unchanged.onward)) (read.lower first last (part_of _ _ _ _ tested.unchanged (onward_none _)))
          (rw (← c.deref.ensures.value, ← c.deref-2.ensures.value) c.verify-verdict.ensures.verdict) refused refl);
      unchanged = unchanged;
    }

pub returns-in_err-test_two_new-clause-ready : goal.returns-in_err-test_two_new-clause-ready
returns-in_err-test_two_new-clause-ready g c =
    let p = err_from_is_err_and c.from_residual.result c.from_residual.ensures.1 in
    λ last onward. rw p.1 tt

pub returns-in_err-test_two_new-clause-unchanged : goal.returns-in_err-test_two_new-clause-unchanged
returns-in_err-test_two_new-clause-unchanged g c = c.in_err-test_two_new.ensures.unchanged

pub returns-in_err-lower-clause-ready : goal.returns-in_err-lower-clause-ready
returns-in_err-lower-clause-ready g c =
    let p = err_from_is_err_and c.from_residual-in_err-lower.result c.from_residual-in_err-lower.ensures.1 in
    λ last onward. rw p.1 tt

pub returns-in_err-lower-clause-unchanged : goal.returns-in_err-lower-clause-unchanged
returns-in_err-lower-clause-unchanged g c = unchanged_on _ _ _ c.in_ok-test_two_new.ensures.unchanged c.in_err-lower.ensures.unchanged

pub returns-in-Accepted-clause-refused : goal.returns-in-Accepted-clause-refused
returns-in-Accepted-clause-refused g c = λ net. tt
