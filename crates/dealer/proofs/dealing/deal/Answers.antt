use Rattle.std.proofs.Common.{refl, inl}
use Rattle.std.proofs.lemmas.Result.{err_from_is_err_and}
use Rattle.dealer.proofs.Exclusive.{none_dealable}
use Rattle.dealer.proofs.dealing.deal.Goals as goal

pub returns-in-Ok-clause-refused : goal.returns-in-Ok-clause-refused
returns-in-Ok-clause-refused c = λ fault has. absurd (none_dealable _ _ _ _ fault c.in_ok-test_dealing.ensures.dealable has)

pub returns-clause-refused : goal.returns-clause-refused
returns-clause-refused c = λ fault has. absurd (none_dealable _ _ _ _ fault c.in_ok-test_dealing.ensures.dealable has)

pub returns-clause-cause : goal.returns-clause-cause
returns-clause-cause c = inl (refl, c.in_ok-test_dealing.ensures.dealable)

pub build-requires-clause-dealable : goal.build-requires-clause-dealable
build-requires-clause-dealable c = c.in_ok-test_dealing.ensures.dealable

pub returns-in-Ok-clause-dealable : goal.returns-in-Ok-clause-dealable
returns-in-Ok-clause-dealable c = c.in_ok-test_dealing.ensures.dealable

pub returns-in-Ok-clause-dealt : goal.returns-in-Ok-clause-dealt
returns-in-Ok-clause-dealt c = c.in-Ok.ensures.dealt

pub returns-in-Ok-clause-shares : goal.returns-in-Ok-clause-shares
returns-in-Ok-clause-shares c = c.in-Ok.ensures.shares

pub returns-in-Ok-clause-cause : goal.returns-in-Ok-clause-cause
returns-in-Ok-clause-cause c = tt

pub returns-clause-dealable : goal.returns-clause-dealable
returns-clause-dealable c = tt

pub returns-clause-dealt : goal.returns-clause-dealt
returns-clause-dealt c = tt

pub returns-clause-shares : goal.returns-clause-shares
returns-clause-shares c = tt

pub returns-in_err-test_dealing-clause-dealable : goal.returns-in_err-test_dealing-clause-dealable
returns-in_err-test_dealing-clause-dealable c = rw (err_from_is_err_and c.from_residual.result c.from_residual.ensures.1).1 tt

pub returns-in_err-test_dealing-clause-dealt : goal.returns-in_err-test_dealing-clause-dealt
returns-in_err-test_dealing-clause-dealt c = rw (err_from_is_err_and c.from_residual.result c.from_residual.ensures.1).1 tt

pub returns-in_err-test_dealing-clause-shares : goal.returns-in_err-test_dealing-clause-shares
returns-in_err-test_dealing-clause-shares c = rw (err_from_is_err_and c.from_residual.result c.from_residual.ensures.1).1 tt
