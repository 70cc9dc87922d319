use Rattle.std.proofs.Common.{sym}
use Rattle.stream_memory.specs.Links.{talk_of}
use Rattle.laws_signing.proofs.witness.heard.port_gave.Goals as goal

pub returns-in-Some : goal.returns-in-Some
returns-in-Some c = λ yes. (talk_of c.in-Some.talk.now, sym (c.in-Some.ensures {u = tt}), c.gave.ensures yes)
