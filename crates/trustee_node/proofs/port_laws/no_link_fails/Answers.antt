use Rattle.trustee_node.proofs.RoomyLinks.{no-link-fails}
use Rattle.trustee_node.proofs.port_laws.no_link_fails.Goals as goal

pub returns : goal.returns
returns c = no-link-fails
