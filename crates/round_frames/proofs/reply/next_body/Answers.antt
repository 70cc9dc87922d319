use Rattle.std.proofs.Common.{◌∙◌, ap, length, arith}
use Rattle.std.proofs.lemmas.Result.{err_from_is_err_and}
use Rattle.round_frames.specs.Replies.{body_seen, reply_in}
use Rattle.round_frames.proofs.Reading.{all-there, part-missing}
use Rattle.round_frames.proofs.reply.next_body.Goals as goal

pub returns-in_err-fill-clause-told : goal.returns-in_err-fill-clause-told
returns-in_err-fill-clause-told g c told =
    let talk = g.S.Stream.talk in
    let size = length c.args.body.now in
    let p = err_from_is_err_and c.from_residual.result c.from_residual.ensures.1 in
    rw (p.1, p.2) (part-missing (talk c.args.source.now) (talk c.fill.new.source) c.in_err-fill.field-0.0 size size
    (λ rest. reply_in c.args.params.now.n c.args.kind c.args.head.now rest) (omega arith) (c.in_err-fill.ensures.passed told))

pub returns-clause-told : goal.returns-clause-told
returns-clause-told g c told =
    let talk = g.S.Stream.talk in
    let filled = c.in_ok-fill.ensures in
    all-there (talk c.args.source.now) (talk c.fill.new.source) (body_seen c.reply_of.result c.fill.new.out) (length c.args.body.now)
    (λ rest. reply_in c.args.params.now.n c.args.kind c.args.head.now rest) (filled.passed told)
    (c.reply_of.ensures.reply ∙ ap (reply_in c.args.params.now.n c.args.kind c.args.head.now) (filled.bytes told))

pub returns-in_err-fill-clause-only : goal.returns-in_err-fill-clause-only
returns-in_err-fill-clause-only g c = c.in_err-fill.ensures.only

pub returns-in_err-fill-clause-steady : goal.returns-in_err-fill-clause-steady
returns-in_err-fill-clause-steady g c = c.in_err-fill.ensures.steady

pub returns-clause-only : goal.returns-clause-only
returns-clause-only g c = c.in_ok-fill.ensures.only

pub returns-clause-steady : goal.returns-clause-steady
returns-clause-steady g c = c.in_ok-fill.ensures.steady
