use Rattle.std.proofs.lemmas.Result.{err_from_is_err_and}
use Rattle.dealer.proofs.Wanting.{deals-built, deals-no_memory, deals-refused}
use Rattle.dealer.proofs.committed.deal_committed.Goals as goal

pub returns-in-Err : goal.returns-in-Err
returns-in-Err c = deals-no_memory _ _ _ c.in_ok-test_committed.ensures.dealable c.in_ok-test_committed.ensures.small

pub returns-in-Ok : goal.returns-in-Ok
returns-in-Ok c =
    let tested = c.in_ok-test_committed.ensures in
    deals-built _ _ _ c.in-Ok.both tested.dealable tested.small c.in-Ok.ensures

pub returns-in_err-test_committed : goal.returns-in_err-test_committed
returns-in_err-test_committed c =
    let tested = c.in_err-test_committed.ensures in
    let p = err_from_is_err_and c.from_residual.result c.from_residual.ensures.1 in
    rw (p.1, p.2) (deals-refused _ _ _ c.in_err-test_committed.field-0.0 tested.refused tested.too_large tested.cause)
