use Rattle.tool_trustee.proofs.Lives.{one_opening}
use Rattle.tool_trustee.proofs.laws.one_opening.Goals as goal

pub returns : goal.returns
returns g c = λ share state passes. one_opening share g.S.Store.state state passes
