use Rattle.stream_host.specs.Buffered.{buffered_talk}
use Rattle.stream_host.proofs.Behind.{as-before, held-only, held-written, only-before, only-behind, refused-written, written-behind, written-through, wrote-through}
use Rattle.stream_host.proofs.buffered.BufferedSink.write.Goals as goal

-- held back at once
pub returns-then-hold-clause-written : goal.returns-then-hold-clause-written
returns-then-hold-clause-written g c =
    let h = c.if-hold.ensures in
    held-written g.L.Stream.talk c.args.self.now c.hold.new.self c.args.bytes.now h.link h.ahead h.held

pub returns-then-hold-clause-only : goal.returns-then-hold-clause-only
returns-then-hold-clause-only g c =
    let h = c.if-hold.ensures in
    held-only g.L.Stream.talk c.args.self.now c.hold.new.self c.args.bytes.now h.link h.ahead h.held

pub returns-in_err-flush-clause-only : goal.returns-in_err-flush-clause-only
returns-in_err-flush-clause-only g c =
    let k = c.if-hold.ensures in
    only-before g.L.Stream.talk c.args.self.now c.hold.new.self c.flush.new.self k.link k.ahead k.held c.flush.ensures.same

pub returns-in_err-flush-clause-written : goal.returns-in_err-flush-clause-written
returns-in_err-flush-clause-written g c =
    let k = c.if-hold.ensures in
    refused-written (buffered_talk (g.L.Stream.talk c.args.self.now.link) c.args.self.now.ahead c.args.self.now.behind)
    (buffered_talk (g.L.Stream.talk c.flush.new.self.link) c.flush.new.self.ahead c.flush.new.self.behind)
    c.args.bytes.now c.from_residual.result c.from_residual.ensures.0
    (as-before g.L.Stream.talk c.args.self.now c.hold.new.self c.flush.new.self k.link k.ahead k.held c.flush.ensures.same)

-- held back after what went out
pub returns-then-hold-2-clause-written : goal.returns-then-hold-2-clause-written
returns-then-hold-2-clause-written g c =
    let k = c.if-hold.ensures in
    let h = c.if-hold-2.ensures in
    written-behind g.L.Stream.talk c.flush.new.self c.hold-2.new.self c.args.bytes.now h.link h.ahead h.held
    (buffered_talk (g.L.Stream.talk c.args.self.now.link) c.args.self.now.ahead c.args.self.now.behind)
    (as-before g.L.Stream.talk c.args.self.now c.hold.new.self c.flush.new.self k.link k.ahead k.held c.flush.ensures.same)

pub returns-then-hold-2-clause-only : goal.returns-then-hold-2-clause-only
returns-then-hold-2-clause-only g c =
    let k = c.if-hold.ensures in
    let h = c.if-hold-2.ensures in
    only-behind g.L.Stream.talk c.flush.new.self c.hold-2.new.self c.args.bytes.now h.link h.ahead h.held
    (buffered_talk (g.L.Stream.talk c.args.self.now.link) c.args.self.now.ahead c.args.self.now.behind)
    (as-before g.L.Stream.talk c.args.self.now c.hold.new.self c.flush.new.self k.link k.ahead k.held c.flush.ensures.same)

-- written to the link below
pub returns-clause-written : goal.returns-clause-written
returns-clause-written g c =
    let k = c.if-hold.ensures in
    let h = c.if-hold-2.ensures in
    written-through g.L.Stream.talk (buffered_talk (g.L.Stream.talk c.args.self.now.link) c.args.self.now.ahead c.args.self.now.behind)
    (record { link = c.self.inside.link; ahead = c.self.inside.ahead; behind = c.self.inside.behind }) c.hold-2.new.self c.flush.new.self c.write.new.self c.self.view_is h.link h.ahead h.held
    c.in_ok-flush.ensures.sent
    (as-before g.L.Stream.talk c.args.self.now c.hold.new.self c.flush.new.self k.link k.ahead k.held c.flush.ensures.same)
    c.write.ensures.only c.args.bytes.now c.write.result c.write.ensures.written

pub returns-clause-only : goal.returns-clause-only
returns-clause-only g c =
    let k = c.if-hold.ensures in
    let h = c.if-hold-2.ensures in
    wrote-through g.L.Stream.talk (buffered_talk (g.L.Stream.talk c.args.self.now.link) c.args.self.now.ahead c.args.self.now.behind)
    (record { link = c.self.inside.link; ahead = c.self.inside.ahead; behind = c.self.inside.behind }) c.hold-2.new.self c.flush.new.self c.write.new.self c.self.view_is h.link h.ahead h.held
    c.in_ok-flush.ensures.sent
    (as-before g.L.Stream.talk c.args.self.now c.hold.new.self c.flush.new.self k.link k.ahead k.held c.flush.ensures.same)
    c.write.ensures.only
