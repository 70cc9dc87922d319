use Rattle.std.proofs.Common.{refl}
use Rattle.dealer.specs.Faults.{too_high, too_wide}
use Rattle.dealer.proofs.checks.small_fault.Goals as goal

pub returns-then-params-gt10-clause-cause : goal.returns-then-params-gt10-clause-cause
returns-then-params-gt10-clause-cause c plan entropy = too_high c.if-params-gt10.true

pub returns-then-params-eq8-clause-cause : goal.returns-then-params-eq8-clause-cause
returns-then-params-eq8-clause-cause c plan entropy = too_wide refl c.if-params-eq10.true c.if-params-eq8.true
