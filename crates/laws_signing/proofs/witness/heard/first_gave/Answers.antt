use Rattle.std.proofs.Common.{sym}
use Rattle.stream_memory.specs.Ports.{port_state}
use Rattle.laws_signing.proofs.witness.heard.first_gave.Goals as goal

pub returns-in-Some : goal.returns-in-Some
returns-in-Some c = λ yes.
    let one = c.port_gave.ensures yes in
    record {
      port = port_state c.in-Some.port.now;
      kept = sym (c.in-Some.ensures {u = tt});
      talk = one.0;
      first = one.1;
      gave = one.2;
    }
