use Rattle.std.proofs.Common.{◌≡◌, ◌⊎◌, ap, inl, inr, refl, Err, Result}
use Rattle.std.proofs.lemmas.Result.{err_from_is_err_and}
use Rattle.dealer.specs.declared.faults.DealFault.{DealFault}
use Rattle.dealer.specs.declared.faults.DealFault.TheVariants.{NoMemory}
use Rattle.dealer.proofs.Exclusive.{none_dealable}
use Rattle.dealer.specs.Rehearsal.{CanRehearse, RehearsalFault}
use Rattle.dealer.proofs.Rehearsing.{can-rehearse, deal-fault, fits, is-rehearsed, rehearsal-fault}
use Rattle.dealer.proofs.rehearsed.rehearse.Goals as goal

only-err : {T : Type 0} {fault other : DealFault} → ◌≡◌ {A = Result T DealFault} (Err fault) (Err other) → fault ≡ other
only-err e = cc

pub sign_leaf-requires-clause-fits : goal.sign_leaf-requires-clause-fits
sign_leaf-requires-clause-fits c =
    fits c.rehearsal_params.result c.plan_of_two-plan.result c.args.entropy.now c.in_ok-dealt.dealt c.rehearsal_params.ensures.height c.plan_of_two-plan.ensures c.in_ok-dealt.ensures.dealt

pub returns-in_err-dealt-clause-refused : goal.returns-in_err-dealt-clause-refused
returns-in_err-dealt-clause-refused c = λ fault has.
    let p = err_from_is_err_and c.from_residual.result c.from_residual.ensures.1 in
    let same = c.in_err-dealt.ensures.refused fault
    (deal-fault c.rehearsal_params.result c.plan_of_two-plan.result c.args.entropy.now fault c.rehearsal_params.ensures.height c.plan_of_two-plan.ensures has) in
    rw (p.1, p.2) (ap Err (only-err same))

pub returns-in_err-dealt-clause-cause : goal.returns-in_err-dealt-clause-cause
returns-in_err-dealt-clause-cause c =
    let p = err_from_is_err_and c.from_residual.result c.from_residual.ensures.1 in
    let params = c.rehearsal_params.result in
    let plan = c.plan_of_two-plan.result in
    let fault = c.in_err-dealt.field-0.0 in
    let cause : (fault ≡ NoMemory × CanRehearse c.args.entropy.now) ⊎ RehearsalFault c.args.entropy.now fault =
    elim c.in_err-dealt.ensures.cause [
      | inl none ↦ inl (none.0, can-rehearse params plan c.args.entropy.now c.plan_of_two-plan.ensures none.1)
      | inr has ↦ inr (rehearsal-fault params plan c.args.entropy.now fault c.rehearsal_params.ensures.height c.plan_of_two-plan.ensures has)
    ] in
    rw (p.1, p.2) cause

pub returns-in-Ok-clause-rehearsed : goal.returns-in-Ok-clause-rehearsed
returns-in-Ok-clause-rehearsed c =
    is-rehearsed c.rehearsal_params.result c.plan_of_two-plan.result c.args.entropy.now c.args.message.now c.in_ok-dealt.dealt c.keys_of-keys.result c.in-Ok.signature.items
    c.rehearsal_params.ensures.lms c.rehearsal_params.ensures.ots c.rehearsal_params.ensures.hash_length c.rehearsal_params.ensures.height c.plan_of_two-plan.ensures c.in_ok-dealt.ensures.dealable c.in_ok-dealt.ensures.dealt
    (rw c.deref.ensures.value at c.keys_of-keys.ensures) c.in-Ok.ensures

pub returns-in-Ok-clause-tested : goal.returns-in-Ok-clause-tested
returns-in-Ok-clause-tested c = can-rehearse c.rehearsal_params.result c.plan_of_two-plan.result c.args.entropy.now c.plan_of_two-plan.ensures c.in_ok-dealt.ensures.dealable

pub returns-in-Ok-clause-refused : goal.returns-in-Ok-clause-refused
returns-in-Ok-clause-refused c = λ fault has.
    absurd (none_dealable _ _ _ _ fault c.in_ok-dealt.ensures.dealable
    (deal-fault c.rehearsal_params.result c.plan_of_two-plan.result c.args.entropy.now fault c.rehearsal_params.ensures.height c.plan_of_two-plan.ensures has))

pub returns-clause-refused : goal.returns-clause-refused
returns-clause-refused c = λ fault has.
    absurd (none_dealable _ _ _ _ fault c.in_ok-dealt.ensures.dealable
    (deal-fault c.rehearsal_params.result c.plan_of_two-plan.result c.args.entropy.now fault c.rehearsal_params.ensures.height c.plan_of_two-plan.ensures has))

pub returns-clause-cause : goal.returns-clause-cause
returns-clause-cause c =
    inl (refl, can-rehearse c.rehearsal_params.result c.plan_of_two-plan.result c.args.entropy.now c.plan_of_two-plan.ensures c.in_ok-dealt.ensures.dealable)

pub returns-in_err-dealt-clause-rehearsed : goal.returns-in_err-dealt-clause-rehearsed
returns-in_err-dealt-clause-rehearsed c = rw (err_from_is_err_and c.from_residual.result c.from_residual.ensures.1).1 tt

pub returns-in_err-dealt-clause-tested : goal.returns-in_err-dealt-clause-tested
returns-in_err-dealt-clause-tested c = rw (err_from_is_err_and c.from_residual.result c.from_residual.ensures.1).1 tt

pub returns-in-Ok-clause-cause : goal.returns-in-Ok-clause-cause
returns-in-Ok-clause-cause c = tt

pub returns-clause-rehearsed : goal.returns-clause-rehearsed
returns-clause-rehearsed c = tt

pub returns-clause-tested : goal.returns-clause-tested
returns-clause-tested c = tt
