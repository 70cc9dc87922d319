use Rattle.tool_blame.proofs.AsSign.{as_sign-is}
use Rattle.tool_blame.proofs.laws.as_sign.Goals as goal

pub returns : goal.returns
returns g c = λ words net end run. as_sign-is words _ net end run
