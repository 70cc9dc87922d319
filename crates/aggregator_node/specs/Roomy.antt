-- Clients' links that are steady and have room for all that is written to them.
use Rattle.std.specs.Prelude.{◌≤◌, ◌*◌, ℕ, List, All, IsTrue}
use Rattle.aggregator_node.specs.Clients.{longest_reply}
use Rattle.aggregator_node.specs.Ports.{Place, PortRun}
use Rattle.aggregator_node.specs.Connections.{Connection}
use Rattle.lms_bytes.specs.declared.params.Params.{Params}
use Rattle.node_workers.specs.Ends.{IsLinkFault}

-- a link of this room takes all replies of a connection, 65,536 of the longest
abbrev pub TakesAll : Params → ℕ → Type 0
TakesAll params room = 65536 * longest_reply params ≤ room

-- the links that a port makes are steady, and take all replies of a connection
abbrev pub HasRoomyLinks : Params → Place → Type 0
HasRoomyLinks params place = IsTrue place.port.steady × TakesAll params place.port.room

-- no client's connection of these runs ended because a read or a write failed
abbrev pub NoLinkFails : List PortRun → Type 0
NoLinkFails runs =
    All (λ (run : PortRun). All (λ (one : Connection). IsLinkFault one.served.ended → ⊥) run.served) runs
