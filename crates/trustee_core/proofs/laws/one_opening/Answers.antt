use Rattle.trustee_core.proofs.Living.{grows, one-opening}
use Rattle.trustee_core.proofs.laws.one_opening.Goals as goal

pub returns-clause-opening : goal.returns-clause-opening
returns-clause-opening c = one-opening

pub returns-clause-grows : goal.returns-clause-grows
returns-clause-grows c = grows
