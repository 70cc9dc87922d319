use Rattle.laws_signing.specs.Witness.{IsRoomyScript}
use Rattle.laws_signing.proofs.witness.links.dialled_net.Given as goal

abbrev pub invariant-loop-peer : goal.invariant-loop-peer
invariant-loop-peer l = IsRoomyScript l.room l.script
