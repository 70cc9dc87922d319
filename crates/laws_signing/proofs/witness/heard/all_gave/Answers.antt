use Rattle.std.proofs.Common.{below_more, map}
use Rattle.stream_memory.specs.Ports.{port_state}
use Rattle.laws_signing.proofs.Heard.{GaveAt, gave-all, gave-one, sent}
use Rattle.laws_signing.proofs.witness.heard.all_gave.Goals as goal

pub loop-index-preserved : goal.loop-index-preserved
loop-index-preserved c =
    let talks = (port_state c.args.port.now).talks in
    below_more (GaveAt talks (map sent c.args.peers.now)) c.loop-index.index c.loop-index.invariant
    (gave-one c.loop-index.index talks c.args.peers.now _ c.loop-index-test.true (c.gave_at.ensures c.if-not-gave_at.false))

pub returns : goal.returns
returns c = λ _. gave-all c.loop-index.index (port_state c.args.port.now).talks c.args.peers.now c.loop-index-test.false c.loop-index.invariant
