use Rattle.std.proofs.Common.{IfOk, subst}
use Rattle.lms_bytes.specs.declared.params.Params.{Params}
use Rattle.round_frames.specs.Asks.{HasSizes, asks}
use Rattle.round_frames.specs.Frames.{frame_of}
use Rattle.round_frames.specs.Reads.{Reads}
use Rattle.trustee_node.proofs.connection.next_own_ask.Goals as goal

pub returns-clause-told : goal.returns-clause-told
returns-clause-told g c = λ told.
    let talk = g.S.Stream.talk in
    let old = talk c.args.source.now in
    subst (λ (params : Params). Reads old (talk c.next_ask.new.source) c.next_ask.result (frame_of (asks params) old.left)) c.params.ensures (c.next_ask.ensures.told told)

pub returns-clause-sizes : goal.returns-clause-sizes
returns-clause-sizes g c = subst (λ (params : Params). IfOk c.next_ask.result (HasSizes params)) c.params.ensures c.next_ask.ensures.sizes
