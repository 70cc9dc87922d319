use Rattle.std.proofs.Common.{map}
use Rattle.stream_memory.specs.Ports.{port_state}
use Rattle.laws_signing.proofs.Heard.{GaveBelow}
use Rattle.laws_signing.proofs.witness.heard.all_gave.Given as goal

abbrev pub invariant-loop-index : goal.invariant-loop-index
invariant-loop-index l = GaveBelow l.index (port_state l.port).talks (map (λ peer. peer.bytes.now) l.peers)
