use Rattle.std.proofs.Common.{map, arith}
use Rattle.stream_memory.specs.Ports.{port_state}
use Rattle.tool_words.specs.Rows.{sign_words}
use Rattle.laws_signing.proofs.Heard.{sent}
use Rattle.laws_signing.proofs.Runs.{heard-run}
use Rattle.laws_signing.proofs.witness.sign.all_heard.Goals as goal

pub returns-in-Some : goal.returns-in-Some
returns-in-Some c = λ gave.
    let counted = c.faults.ensures in
    let none = c.if-faults-ne0.false in
    let first = c.in-Some.ensures {u = tt} in
    heard-run (sign_words c.args.words.now) _ _ _ c.sign.ensures (map sent c.args.peers.now) (port_state c.in-Some.port.now) (first_of (cc, omega (arith, counted, none))) first (c.all_gave.ensures gave)
