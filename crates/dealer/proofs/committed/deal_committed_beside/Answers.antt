use Rattle.std.proofs.Common.{inl, refl}
use Rattle.std.proofs.lemmas.Result.{err_from_is_err_and}
use Rattle.dealer.proofs.Wanting.{deals-built, deals-no_memory, deals-refused, told-wanting}
use Rattle.dealer.proofs.committed.deal_committed_beside.Goals as goal

pub returns-in-Err-clause-deals : goal.returns-in-Err-clause-deals
returns-in-Err-clause-deals g c = deals-no_memory _ _ _ c.in_ok-test_committed.ensures.dealable c.in_ok-test_committed.ensures.small

pub returns-in-Err-clause-told : goal.returns-in-Err-clause-told
returns-in-Err-clause-told g c = told-wanting _ c.in-Err.ensures.told

pub returns-in-Ok-clause-deals : goal.returns-in-Ok-clause-deals
returns-in-Ok-clause-deals g c =
    let tested = c.in_ok-test_committed.ensures in
    deals-built _ _ _ c.in-Ok.both tested.dealable tested.small c.in-Ok.ensures.built

pub returns-in-Ok-clause-told : goal.returns-in-Ok-clause-told
returns-in-Ok-clause-told g c = c.in-Ok.ensures.told

pub returns-in_err-test_committed-clause-deals : goal.returns-in_err-test_committed-clause-deals
returns-in_err-test_committed-clause-deals g c =
    let tested = c.in_err-test_committed.ensures in
    let p = err_from_is_err_and c.from_residual.result c.from_residual.ensures.1 in
    rw (p.1, p.2) (deals-refused _ _ _ c.in_err-test_committed.field-0.0 tested.refused tested.too_large tested.cause)

pub returns-in_err-test_committed-clause-told : goal.returns-in_err-test_committed-clause-told
returns-in_err-test_committed-clause-told g c = rw (err_from_is_err_and c.from_residual.result c.from_residual.ensures.1).1 (inl refl)
