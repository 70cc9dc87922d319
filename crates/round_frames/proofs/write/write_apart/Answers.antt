use Rattle.round_frames.proofs.Writing.{wrote-behind, wrote-front}
use Rattle.std.proofs.Common.{◌∙◌}
use Rattle.std.proofs.lemmas.Result.{err_from_is_err_and}
use Rattle.round_frames.proofs.write.write_apart.Goals as goal

pub returns-clause-wrote : goal.returns-clause-wrote
returns-clause-wrote g c told =
    let talk = g.K.Stream.talk in
    let first = c.in_ok-write_whole.ensures in
    wrote-behind (talk c.args.sink.now) (talk c.write_whole.new.sink) (talk c.write_whole-2.new.sink) c.args.head.now c.args.rest.now c.write_whole-2.result (first.wrote told)
    (c.write_whole-2.ensures.wrote (first.only.told ∙ told))

pub returns-in_err-write_whole-clause-wrote : goal.returns-in_err-write_whole-clause-wrote
returns-in_err-write_whole-clause-wrote g c told =
    let talk = g.K.Stream.talk in
    let p = err_from_is_err_and c.from_residual.result c.from_residual.ensures.1 in
    rw p.1 (wrote-front (talk c.args.sink.now) (talk c.write_whole.new.sink) c.args.head.now c.args.rest.now (c.in_err-write_whole.ensures.wrote told))
