use Rattle.std.proofs.Common.{refl, inl}
use Rattle.std.proofs.lemmas.Result.{err_from_is_err_and}
use Rattle.dealer.proofs.Exclusive.{none_dealable}
use Rattle.dealer.proofs.Wanting.{told-wanting}
use Rattle.dealer.proofs.dealing.deal_beside.Goals as goal

pub returns-in-Ok-clause-refused : goal.returns-in-Ok-clause-refused
returns-in-Ok-clause-refused g c = λ fault has. absurd (none_dealable _ _ _ _ fault c.in_ok-test_dealing.ensures.dealable has)

pub returns-clause-refused : goal.returns-clause-refused
returns-clause-refused g c = λ fault has. absurd (none_dealable _ _ _ _ fault c.in_ok-test_dealing.ensures.dealable has)

pub returns-clause-cause : goal.returns-clause-cause
returns-clause-cause g c = inl (refl, c.in_ok-test_dealing.ensures.dealable)

pub returns-in-Ok-clause-dealable : goal.returns-in-Ok-clause-dealable
returns-in-Ok-clause-dealable g c = c.in_ok-test_dealing.ensures.dealable

pub returns-in-Ok-clause-dealt : goal.returns-in-Ok-clause-dealt
returns-in-Ok-clause-dealt g c = c.in-Ok.ensures.built.dealt

pub returns-in-Ok-clause-shares : goal.returns-in-Ok-clause-shares
returns-in-Ok-clause-shares g c = c.in-Ok.ensures.built.shares

pub returns-in-Ok-clause-cause : goal.returns-in-Ok-clause-cause
returns-in-Ok-clause-cause g c = tt

pub returns-clause-dealable : goal.returns-clause-dealable
returns-clause-dealable g c = tt

pub returns-clause-dealt : goal.returns-clause-dealt
returns-clause-dealt g c = tt

pub returns-clause-shares : goal.returns-clause-shares
returns-clause-shares g c = tt

pub returns-in_err-test_dealing-clause-dealable : goal.returns-in_err-test_dealing-clause-dealable
returns-in_err-test_dealing-clause-dealable g c = rw (err_from_is_err_and c.from_residual.result c.from_residual.ensures.1).1 tt

pub returns-in_err-test_dealing-clause-dealt : goal.returns-in_err-test_dealing-clause-dealt
returns-in_err-test_dealing-clause-dealt g c = rw (err_from_is_err_and c.from_residual.result c.from_residual.ensures.1).1 tt

pub returns-in_err-test_dealing-clause-shares : goal.returns-in_err-test_dealing-clause-shares
returns-in_err-test_dealing-clause-shares g c = rw (err_from_is_err_and c.from_residual.result c.from_residual.ensures.1).1 tt

pub returns-in-Ok-clause-told : goal.returns-in-Ok-clause-told
returns-in-Ok-clause-told g c = c.in-Ok.ensures.told

pub returns-clause-told : goal.returns-clause-told
returns-clause-told g c = told-wanting _ c.in-Err.ensures.told

pub returns-in_err-test_dealing-clause-told : goal.returns-in_err-test_dealing-clause-told
returns-in_err-test_dealing-clause-told g c = rw (err_from_is_err_and c.from_residual.result c.from_residual.ensures.1).1 (inl refl)
