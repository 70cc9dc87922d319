use Rattle.trustee_node.proofs.Opening.{one-opening}
use Rattle.trustee_node.proofs.laws.one_opening.Goals as goal

pub returns : goal.returns
returns c = one-opening
