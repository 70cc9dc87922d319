use Rattle.trustee_node.proofs.Frames.{read-back}
use Rattle.trustee_node.proofs.laws.replies_are_read.Goals as goal

pub returns : goal.returns
returns c = read-back
