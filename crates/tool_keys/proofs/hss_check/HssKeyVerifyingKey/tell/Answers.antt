use Rattle.tool_keys.specs.Steps.{verdict_told}
use Rattle.tool_keys.proofs.hss_check.HssKeyVerifyingKey.tell.Goals as goal

pub returns : goal.returns
returns c = verdict_told c.hss_verify.result c.hss_verify.ensures.verdict
