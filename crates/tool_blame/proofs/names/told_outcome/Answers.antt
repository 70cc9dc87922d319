use Rattle.tool_blame.specs.Names.{as_ended, as_signed, by_names}
use Rattle.tool_blame.proofs.names.told_outcome.Goals as goal

pub returns-in-Ok-clause-tells : goal.returns-in-Ok-clause-tells
returns-in-Ok-clause-tells g c = rw c.in-Ok.is (as_signed _)

pub returns-then-not-is_not_accepted-clause-tells : goal.returns-then-not-is_not_accepted-clause-tells
returns-then-not-is_not_accepted-clause-tells g c =
    let other = c.if-not-is_not_accepted.true in
    rw c.in-Err.is (as_ended _ (λ is. let yes = c.is_not_accepted.ensures.1 is in cc))

pub returns-in-Some-clause-tells : goal.returns-in-Some-clause-tells
returns-in-Some-clause-tells g c =
    let not = c.if-not-is_not_accepted.false in
    let same = c.is_not_accepted.ensures.0 (cc) in
    rw c.in-Err.is (by_names _ _ c.in-Some.session same c.in-Some.is c.name_blamed.ensures.names)
