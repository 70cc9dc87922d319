use Rattle.std.proofs.Common.{ℕ, [], All, refl, subst}
use Rattle.std.proofs.lemmas.Result.{err_from_is_err_and}
use Rattle.tool_base.specs.Outputs.{IsNew}
use Rattle.tool_base.specs.World.{from_to}
use Rattle.tool_keys.specs.Naming.{all_names}
use Rattle.tool_base.proofs.Runs.{onward_none, onward_on, part_of, unchanged_none, unchanged_on}
use Rattle.tool_words.specs.Rows.{deal_words}
use Rattle.tool_keys.specs.Deal.{no_memory}
use Rattle.tool_keys.specs.Large.{not_dealt, not_read}
use Rattle.tool_keys.proofs.Asking.{asked_fault, names_refused, names_status}
use Rattle.tool_keys.proofs.Telling.{fault-status, undealt-status, unread-status}
use Rattle.tool_keys.proofs.large.read_asked.Goals as goal

pub returns-in_err-entropy-clause-refused : goal.returns-in_err-entropy-clause-refused
returns-in_err-entropy-clause-refused g c =
    let p = err_from_is_err_and c.from_residual.result c.from_residual.ensures.1 in
    λ first last part. rw (p.1, p.2) (not_read _ (c.in_err-entropy.ensures.refused first last part))

pub returns-in_err-entropy-clause-untold : goal.returns-in_err-entropy-clause-untold
returns-in_err-entropy-clause-untold g c =
    let p = err_from_is_err_and c.from_residual.result c.from_residual.ensures.1 in
    let unread = c.in_err-entropy.ensures.refused c.args.store.now c.read_file.new.store (part_of _ _ _ _ (unchanged_none _) (onward_none _)) in
    rw (p.1, p.2) (unread-status _ _ _ _ unread)

pub returns-in_err-params-clause-refused : goal.returns-in_err-params-clause-refused
returns-in_err-params-clause-refused g c =
    let p = err_from_is_err_and c.from_residual-in_err-params.result c.from_residual-in_err-params.ensures.1 in
    λ first last part. rw (p.1, p.2) (not_dealt c.in_ok-entropy.entropy.items _ (c.in_ok-entropy.ensures.bytes first last part) (c.in_err-params.ensures.refused c.in_ok-entropy.entropy.items))

pub returns-in_err-params-clause-untold : goal.returns-in_err-params-clause-untold
returns-in_err-params-clause-untold g c =
    let p = err_from_is_err_and c.from_residual-in_err-params.result c.from_residual-in_err-params.ensures.1 in
    rw (p.1, p.2) (undealt-status _ [] _ (c.in_err-params.ensures.refused []))

pub returns-in_err-plan-clause-refused : goal.returns-in_err-plan-clause-refused
returns-in_err-plan-clause-refused g c =
    let p = err_from_is_err_and c.from_residual-in_err-plan.result c.from_residual-in_err-plan.ensures.1 in
    λ first last part. rw (p.1, p.2) (not_dealt c.in_ok-entropy.entropy.items _ (c.in_ok-entropy.ensures.bytes first last part) (c.in_err-plan.ensures.refused c.in_ok-entropy.entropy.items))

pub returns-in_err-plan-clause-untold : goal.returns-in_err-plan-clause-untold
returns-in_err-plan-clause-untold g c =
    let p = err_from_is_err_and c.from_residual-in_err-plan.result c.from_residual-in_err-plan.ensures.1 in
    rw (p.1, p.2) (undealt-status _ [] _ (c.in_err-plan.ensures.refused []))

pub returns-in-Err-clause-refused : goal.returns-in-Err-clause-refused
returns-in-Err-clause-refused g c = λ first last part.
    let has = rw c.deref.ensures.value at c.in-Err.ensures.cause in
    rw c.end_of_fault.ensures (not_dealt c.in_ok-entropy.entropy.items _ (c.in_ok-entropy.ensures.bytes first last part)
    (asked_fault (deal_words c.args.words.now) c.in_ok-entropy.entropy.items c.in_ok-params.params _ c.in-Err.fault c.requires.large c.in_ok-params.ensures.set c.in_ok-plan.ensures.plan c.in_ok-plan.ensures.sound has))

pub returns-in-Err-clause-untold : goal.returns-in-Err-clause-untold
returns-in-Err-clause-untold g c = rw c.end_of_fault.ensures (fault-status c.in-Err.fault)

pub returns-in_err-test_names-clause-refused : goal.returns-in_err-test_names-clause-refused
returns-in_err-test_names-clause-refused g c =
    let p = err_from_is_err_and c.from_residual-in_err-test_names.result c.from_residual-in_err-test_names.ensures.1 in
    let one = c.in_ok-entropy.ensures in
    let two = c.in_err-test_names.ensures in
    let dealable = rw c.deref.ensures.value at c.in_default.ensures.dealable in
    λ first last part.
    let read = one.bytes first last (part_of _ _ _ _ part.earlier (onward_on _ _ _ two.unchanged.onward part.later)) in
    let fails = two.refused first last (part_of _ _ _ _ (unchanged_on _ _ _ part.earlier one.unchanged) part.later) in
    rw (p.1, p.2) (names_refused _ (deal_words c.args.words.now) c.in_ok-entropy.entropy.items c.in_ok-params.params _ _ read c.in_ok-params.ensures.set c.in_ok-plan.ensures.plan
    c.in_ok-plan.ensures.sound dealable (rw c.n.ensures.value at fails))

pub returns-in_err-test_names-clause-untold : goal.returns-in_err-test_names-clause-untold
returns-in_err-test_names-clause-untold g c =
    let p = err_from_is_err_and c.from_residual-in_err-test_names.result c.from_residual-in_err-test_names.ensures.1 in
    let fails = c.in_err-test_names.ensures.refused c.read_file.new.store c.test_names.new.store (part_of _ _ _ _ (unchanged_none _) (onward_none _)) in
    rw (p.1, p.2) (names_status _ _ _ fails)

pub returns-in_err-test_names-clause-unchanged : goal.returns-in_err-test_names-clause-unchanged
returns-in_err-test_names-clause-unchanged g c = unchanged_on _ _ _ c.in_ok-entropy.ensures.unchanged c.in_err-test_names.ensures.unchanged

pub returns-in_default-format-clause-refused : goal.returns-in_default-format-clause-refused
returns-in_default-format-clause-refused g c =
    let one = c.in_ok-entropy.ensures in
    let two = c.in_ok-test_names.ensures in
    λ first last part. not_dealt c.in_ok-entropy.entropy.items _ (one.bytes first last (part_of _ _ _ _ part.earlier (onward_on _ _ _ two.unchanged.onward part.later))) no_memory

pub returns-in_default-format-clause-unchanged : goal.returns-in_default-format-clause-unchanged
returns-in_default-format-clause-unchanged g c = unchanged_on _ _ _ c.in_ok-entropy.ensures.unchanged c.in_ok-test_names.ensures.unchanged

pub returns-clause-asked : goal.returns-clause-asked
returns-clause-asked g c =
    let one = c.in_ok-entropy.ensures in
    let two = c.in_ok-test_names.ensures in
    λ first last part. record {
      are = record { set = c.in_ok-params.ensures.set; plan_is = c.in_ok-plan.ensures.plan; sound = c.in_ok-plan.ensures.sound };
      read = one.bytes first last (part_of _ _ _ _ part.earlier (onward_on _ _ _ two.unchanged.onward part.later));
      dealable = rw c.deref.ensures.value at c.in_default.ensures.dealable;
      new = subst (λ (n : ℕ). All (IsNew (from_to (g.S.Store.state first) (g.S.Store.state last))) (all_names c.args.words.now.prefix.now n)) c.n.ensures.value
          (two.new first last (part_of _ _ _ _ (unchanged_on _ _ _ part.earlier one.unchanged) part.later));
      name = rw c.in-Ok.ensures.ok refl;
    }

pub returns-clause-unchanged : goal.returns-clause-unchanged
returns-clause-unchanged g c = unchanged_on _ _ _ c.in_ok-entropy.ensures.unchanged c.in_ok-test_names.ensures.unchanged
