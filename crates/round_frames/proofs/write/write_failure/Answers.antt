use Rattle.std.proofs.Common.{◌≡◌, ◌++◌, MatchResult, subst}
use Rattle.stream_io.specs.Talk.{WrotePart}
use Rattle.round_frames.proofs.write.write_failure.Goals as goal

pub returns-clause-wrote : goal.returns-clause-wrote
returns-clause-wrote g c told =
    let talk = g.K.Stream.talk in
    let old = talk c.args.sink.now in
    let new = talk c.write_whole.new.sink in
    subst (λ bytes. MatchResult c.write_whole.result (λ _. new.written ≡ old.written ++ bytes) (λ _. WrotePart old new bytes)) c.failure_bytes-bytes.ensures (c.write_whole.ensures.wrote told)
