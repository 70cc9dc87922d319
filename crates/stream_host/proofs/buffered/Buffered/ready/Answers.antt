use Rattle.stream_host.specs.Buffered.{buffered_talk}
use Rattle.stream_host.proofs.Below.{only-received, same-only, same-received}
use Rattle.stream_host.proofs.buffered.Buffered.ready.Goals as goal

pub returns-in_err-flush-clause-only : goal.returns-in_err-flush-clause-only
returns-in_err-flush-clause-only g c = same-only _ _ c.flush.ensures.same

pub returns-in_err-flush-clause-same : goal.returns-in_err-flush-clause-same
returns-in_err-flush-clause-same g c told = c.flush.ensures.same

pub returns-in_err-receive-clause-only : goal.returns-in_err-receive-clause-only
returns-in_err-receive-clause-only g c =
    only-received g.L.Stream.talk (buffered_talk (g.L.Stream.talk c.args.self.now.link) c.args.self.now.ahead c.args.self.now.behind)
    c.flush.new.self c.receive.new.self c.in_ok-flush.ensures.sent c.receive.ensures.behind c.flush.ensures.same c.receive.ensures.only

pub returns-in_ok-receive-clause-only : goal.returns-in_ok-receive-clause-only
returns-in_ok-receive-clause-only g c =
    only-received g.L.Stream.talk (buffered_talk (g.L.Stream.talk c.args.self.now.link) c.args.self.now.ahead c.args.self.now.behind)
    c.flush.new.self c.receive.new.self c.in_ok-flush.ensures.sent c.receive.ensures.behind c.flush.ensures.same c.receive.ensures.only

pub returns-in_err-receive-clause-same : goal.returns-in_err-receive-clause-same
returns-in_err-receive-clause-same g c =
    same-received g.L.Stream.talk
    (record { link = c.self.inside.link; ahead = c.self.inside.ahead; behind = c.self.inside.behind }) c.args.self.now
    c.flush.new.self c.receive.new.self c.receive.result c.self.view_is (c.is_empty.ensures.0 c.if-is_empty.true)
    c.flush.ensures.ahead c.in_ok-flush.ensures.sent c.receive.ensures.behind c.flush.ensures.same c.receive.ensures.only
    c.receive.ensures.ahead

pub returns-in_ok-receive-clause-same : goal.returns-in_ok-receive-clause-same
returns-in_ok-receive-clause-same g c =
    same-received g.L.Stream.talk
    (record { link = c.self.inside.link; ahead = c.self.inside.ahead; behind = c.self.inside.behind }) c.args.self.now
    c.flush.new.self c.receive.new.self c.receive.result c.self.view_is (c.is_empty.ensures.0 c.if-is_empty.true)
    c.flush.ensures.ahead c.in_ok-flush.ensures.sent c.receive.ensures.behind c.flush.ensures.same c.receive.ensures.only
    c.receive.ensures.ahead
