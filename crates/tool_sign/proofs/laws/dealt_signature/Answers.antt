use Rattle.tool_sign.proofs.Dealt.{dealt-signature}
use Rattle.tool_sign.proofs.laws.dealt_signature.Goals as goal

pub returns : goal.returns
returns c = dealt-signature
