use Rattle.std.proofs.Common.{ap}
use Rattle.tool_base.specs.Endings.{ending}
use Rattle.laws_signing.proofs.witness.trustee.is_end.Goals as goal

pub returns-in-Served : goal.returns-in-Served
returns-in-Served c = λ yes. (_, _, ap ending c.in-Served.is)
