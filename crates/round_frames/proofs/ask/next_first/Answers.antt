use Rattle.std.proofs.Common.{◌∙◌, Ok, ap, arith}
use Rattle.std.proofs.lemmas.Result.{err_from_is_err_and}
use Rattle.round_frames.specs.Asks.{first_ask}
use Rattle.round_frames.proofs.Reading.{all-there, part-missing}
use Rattle.round_frames.proofs.ask.next_first.Goals as goal

pub returns-in_err-fill-clause-told : goal.returns-in_err-fill-clause-told
returns-in_err-fill-clause-told g c told =
    let talk = g.S.Stream.talk in
    let p = err_from_is_err_and c.from_residual.result c.from_residual.ensures.1 in
    rw (p.1, p.2) (part-missing (talk c.args.source.now) (talk c.fill.new.source) c.in_err-fill.field-0.0 56 56 (λ payload. Ok (first_ask payload)) (omega arith) (c.in_err-fill.ensures.passed told))

pub returns-clause-told : goal.returns-clause-told
returns-clause-told g c told =
    let talk = g.S.Stream.talk in
    all-there (talk c.args.source.now) (talk c.fill.new.source) _ 56 (λ payload. Ok (first_ask payload)) (c.in_ok-fill.ensures.passed told)
    (ap (λ ask. Ok ask) (c.read_first.ensures ∙ ap first_ask (c.in_ok-fill.ensures.bytes told)))

pub returns-clause-first : goal.returns-clause-first
returns-clause-first g c = ap (λ ask. ask.second) c.read_first.ensures

pub returns-in_err-fill-clause-only : goal.returns-in_err-fill-clause-only
returns-in_err-fill-clause-only g c = c.in_err-fill.ensures.only

pub returns-in_err-fill-clause-steady : goal.returns-in_err-fill-clause-steady
returns-in_err-fill-clause-steady g c = c.in_err-fill.ensures.steady

pub returns-clause-only : goal.returns-clause-only
returns-clause-only g c = c.in_ok-fill.ensures.only

pub returns-clause-steady : goal.returns-clause-steady
returns-clause-steady g c = c.in_ok-fill.ensures.steady
