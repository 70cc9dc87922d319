use Rattle.tool_keys.specs.Steps.{verdict_told}
use Rattle.tool_keys.proofs.verify.PublicKeyVerifyingKey.tell.Goals as goal

pub returns : goal.returns
returns c = verdict_told c.verify.result c.verify.ensures.verdict
