use Rattle.std.proofs.Common.{◌∙◌}
use Rattle.std.proofs.lemmas.Result.{err_from_is_err_and}
use Rattle.round_frames.specs.Asks.{asks}
use Rattle.round_frames.proofs.Reading.{header-then, no-header, only-then}
use Rattle.round_frames.proofs.ask.next_ask.Goals as goal

pub returns-in_err-header-clause-told : goal.returns-in_err-header-clause-told
returns-in_err-header-clause-told g c told =
    let talk = g.S.Stream.talk in
    let p = err_from_is_err_and c.from_residual.result c.from_residual.ensures.1 in
    rw (p.1, p.2) (no-header (asks c.args.params.now) (talk c.args.source.now) (talk c.next_header.new.source) c.in_err-header.field-0.0 (c.in_err-header.ensures.told told))

pub returns-clause-told : goal.returns-clause-told
returns-clause-told g c told =
    let talk = g.S.Stream.talk in
    let h = c.in_ok-header.ensures in
    header-then (asks c.args.params.now) c.in_ok-header.header (talk c.args.source.now) (talk c.next_header.new.source) (talk c.next_payload.new.source) c.next_payload.result
    (h.told told) (h.whole told) (c.next_payload.ensures.told (h.only.told ∙ told))

pub returns-clause-only : goal.returns-clause-only
returns-clause-only g c = only-then _ _ _ c.in_ok-header.ensures.only c.next_payload.ensures.only

pub returns-clause-steady : goal.returns-clause-steady
returns-clause-steady g c = c.next_payload.ensures.steady ∙ c.in_ok-header.ensures.steady

pub returns-clause-no_memory : goal.returns-clause-no_memory
returns-clause-no_memory g c = c.next_payload.ensures.no_memory

pub returns-clause-sizes : goal.returns-clause-sizes
returns-clause-sizes g c = c.next_payload.ensures.sizes
