use Rattle.std.proofs.Common.{◌∙◌, length}
use Rattle.stream_host.specs.Buffered.{buffered_talk}
use Rattle.stream_host.proofs.Below.{only-through, read-through, refused-read, same-only}
use Rattle.stream_host.proofs.buffered.Buffered.read_through.Goals as goal

pub returns-in_err-flush-clause-only : goal.returns-in_err-flush-clause-only
returns-in_err-flush-clause-only g c = same-only _ _ c.flush.ensures.same

pub returns-clause-read : goal.returns-clause-read
returns-clause-read g c =
    read-through g.L.Stream.talk (buffered_talk (g.L.Stream.talk c.args.self.now.link) c.args.self.now.ahead c.args.self.now.behind)
    (record { link = c.self.inside.link; ahead = c.self.inside.ahead; behind = c.self.inside.behind }) c.flush.new.self c.read.new.self
    c.self.view_is (c.flush.ensures.ahead ∙ c.requires) c.in_ok-flush.ensures.sent c.flush.ensures.same
    (length c.args.out.now) c.read.new.out c.read.result c.read.ensures.read

pub returns-clause-only : goal.returns-clause-only
returns-clause-only g c =
    only-through g.L.Stream.talk (buffered_talk (g.L.Stream.talk c.args.self.now.link) c.args.self.now.ahead c.args.self.now.behind)
    (record { link = c.self.inside.link; ahead = c.self.inside.ahead; behind = c.self.inside.behind }) c.flush.new.self c.read.new.self
    c.self.view_is (c.flush.ensures.ahead ∙ c.requires) c.in_ok-flush.ensures.sent c.flush.ensures.same c.read.ensures.only

pub returns-in_err-flush-clause-read : goal.returns-in_err-flush-clause-read
returns-in_err-flush-clause-read g c =
    refused-read (buffered_talk (g.L.Stream.talk c.args.self.now.link) c.args.self.now.ahead c.args.self.now.behind)
    (buffered_talk (g.L.Stream.talk c.flush.new.self.link) c.flush.new.self.ahead c.flush.new.self.behind)
    (length c.args.out.now) c.args.out.now c.from_residual.result c.from_residual.ensures.0 (λ _. c.flush.ensures.same)
