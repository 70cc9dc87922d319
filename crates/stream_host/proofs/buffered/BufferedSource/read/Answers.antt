use Rattle.std.proofs.Common.{length, refl}
use Rattle.stream_host.specs.Buffered.{buffered_talk}
use Rattle.stream_host.proofs.Below.{refused-read, served-read}
use Rattle.stream_host.proofs.buffered.BufferedSource.read.Goals as goal

pub returns-in_err-ready-clause-read : goal.returns-in_err-ready-clause-read
returns-in_err-ready-clause-read g c =
    refused-read (buffered_talk (g.L.Stream.talk c.args.self.now.link) c.args.self.now.ahead c.args.self.now.behind)
    (buffered_talk (g.L.Stream.talk c.ready.new.self.link) c.ready.new.self.ahead c.ready.new.self.behind)
    (length c.args.out.now) c.args.out.now c.from_residual.result c.from_residual.ensures.0 c.in_err-ready.ensures.same

pub returns-clause-read : goal.returns-clause-read
returns-clause-read g c =
    let r = c.in_ok-ready.ensures in
    served-read (buffered_talk (g.L.Stream.talk c.args.self.now.link) c.args.self.now.ahead c.args.self.now.behind)
    (buffered_talk (g.L.Stream.talk c.ready.new.self.link) c.ready.new.self.ahead c.ready.new.self.behind)
    (buffered_talk (g.L.Stream.talk c.serve.new.self.link) c.serve.new.self.ahead c.serve.new.self.behind)
    c.ready.new.self.ahead (g.L.Stream.talk c.ready.new.self.link).left c.serve.result (length c.args.out.now) c.serve.new.out
    refl c.serve.ensures.size c.serve.ensures.bytes r.same c.serve.ensures.took r.end
