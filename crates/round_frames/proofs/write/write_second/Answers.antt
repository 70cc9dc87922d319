use Rattle.std.proofs.Common.{◌≡◌, ◌+◌, take, subst}
use Rattle.round_frames.specs.Asks.{second_front}
use Rattle.round_frames.specs.Sending.{sink_state}
use Rattle.round_frames.proofs.Sends.{sends-both}
use Rattle.round_frames.proofs.write.write_second.Goals as goal

pub returns-clause-sends : goal.returns-clause-sends
returns-clause-sends g c =
    let n = c.args.params.now.n in
    let front = second_front c.args.ask.now c.args.second.now c.args.message.now in
    let is : take (60 + n) c.put_second.new.out ≡ front = subst (λ k. take (60 + k) c.put_second.new.out ≡ front) c.requires.c c.put_second.ensures in
    let e = c.write_both.ensures in
    sends-both (take (60 + n) c.put_second.new.out) front c.args.message.now (sink_state g.K.Stream.talk g.K.Faults.steady g.K.Sink.room c.args.sink.now)
    (sink_state g.K.Stream.talk g.K.Faults.steady g.K.Sink.room c.write_both.new.sink) c.write_both.result is
    e.wrote e.only e.cause e.succeeds e.room e.steady
