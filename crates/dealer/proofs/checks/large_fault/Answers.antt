use Rattle.dealer.specs.Faults.{too_high}
use Rattle.dealer.proofs.checks.large_fault.Goals as goal

pub returns-then-params-gt20-clause-cause : goal.returns-then-params-gt20-clause-cause
returns-then-params-gt20-clause-cause c plan entropy = too_high c.if-params-gt20.true
