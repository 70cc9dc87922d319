use Rattle.trustee_node.proofs.PortOpening.{ports-opening}
use Rattle.trustee_node.proofs.port_laws.one_opening.Goals as goal

pub returns : goal.returns
returns c = ports-opening
