use Rattle.aggregator_node.proofs.RoomyLinks.{net-sound, no-link-fails}
use Rattle.aggregator_node.proofs.client_laws.no_link_fails.Goals as goal

pub returns-clause-ports : goal.returns-clause-ports
returns-clause-ports c = no-link-fails

pub returns-clause-net : goal.returns-clause-net
returns-clause-net c = net-sound
