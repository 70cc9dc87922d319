use Rattle.std.proofs.Common.{◌≡◌, ◌==◌, ◌∙◌, Ok, false, ap, arith, inr, ne_eqb, refl}
use Rattle.std.proofs.lemmas.Result.{err_from_is_err_and}
use Rattle.round_frames.specs.Results.{Failed, Signature, failure_of, results}
use Rattle.round_frames.specs.declared.fault.FrameFault.TheVariants.{NoMemory}
use Rattle.round_frames.proofs.Reading.{all-there, in-payload, not-err, part-missing, payload-fault, rest-missing, took-none, only-same}
use Rattle.round_frames.proofs.outcome.next_payload.Goals as goal

pub returns-in-Some-clause-told : goal.returns-in-Some-clause-told
returns-in-Some-clause-told g c told = inr (payload-fault (results c.args.params.now) c.args.header.now (g.S.Stream.talk c.args.source.now) c.in-Some.fault c.in-Some.ensures.fault)

pub returns-in_err-bytes-clause-told : goal.returns-in_err-bytes-clause-told
returns-in_err-bytes-clause-told g c told =
    let talk = g.S.Stream.talk in
    let header = c.args.header.now in
    let p = err_from_is_err_and c.from_residual.result c.from_residual.ensures.1 in
    rw (p.1, p.2) (rest-missing (results c.args.params.now) header (talk c.args.source.now) (talk c.args.source.now) (talk c.take_bytes.new.source) c.in_err-bytes.field-0.0 0 header.length
    c.in_default.ensures.fault (omega arith) (took-none (talk c.args.source.now)) (c.in_err-bytes.ensures.passed told))

pub returns-then-header-eq7-clause-told : goal.returns-then-header-eq7-clause-told
returns-then-header-eq7-clause-told g c told =
    let talk = g.S.Stream.talk in
    let header = c.args.header.now in
    let seven = c.if-header-eq7.true in
    let b = c.in_ok-bytes.ensures in
    inr (in-payload (results c.args.params.now) header (talk c.args.source.now) (talk c.take_bytes.new.source) _ header.length (λ payload. Ok (Signature payload))
    c.in_default.ensures.fault refl (λ payload. rw seven refl)
    (all-there (talk c.args.source.now) (talk c.take_bytes.new.source) _ header.length (λ payload. Ok (Signature payload)) (not-err _ NoMemory (b.passed told)) (ap (λ bytes. Ok (Signature bytes)) (b.bytes told))))

pub returns-in_err-fill-clause-told : goal.returns-in_err-fill-clause-told
returns-in_err-fill-clause-told g c told =
    let talk = g.S.Stream.talk in
    let header = c.args.header.now in
    let reader = results c.args.params.now in
    let seven = c.in_default.ensures.failure refl c.if-header-eq7.false in
    let p = err_from_is_err_and c.from_residual-in_err-fill.result c.from_residual-in_err-fill.ensures.1 in
    rw (p.1, p.2) (inr (in-payload reader header (talk c.args.source.now) (talk c.fill.new.source) _ 7 (reader.value header) c.in_default.ensures.fault seven (λ payload. refl)
    (part-missing (talk c.args.source.now) (talk c.fill.new.source) c.in_err-fill.field-0.0 7 7 (reader.value header) (omega arith) (c.in_err-fill.ensures.passed told))))

pub returns-clause-told : goal.returns-clause-told
returns-clause-told g c told =
    let talk = g.S.Stream.talk in
    let header = c.args.header.now in
    let seven = c.in_default.ensures.failure refl c.if-header-eq7.false in
    let test : (header.kind == 7) ≡ false = ne_eqb header.kind 7 c.if-header-eq7.false in
    let f = c.in_ok-fill.ensures in
    inr (in-payload (results c.args.params.now) header (talk c.args.source.now) (talk c.fill.new.source) _ 7 (λ payload. Ok (Failed (failure_of payload)))
    c.in_default.ensures.fault seven (λ payload. rw test refl)
    (all-there (talk c.args.source.now) (talk c.fill.new.source) _ 7 (λ payload. Ok (Failed (failure_of payload))) (f.passed told)
    (ap (λ failure. Ok (Failed failure)) (c.read_failure.ensures ∙ ap failure_of (f.bytes told)))))

pub returns-in-Some-clause-only : goal.returns-in-Some-clause-only
returns-in-Some-clause-only g c = only-same (g.S.Stream.talk c.args.source.now)

pub returns-in_err-bytes-clause-only : goal.returns-in_err-bytes-clause-only
returns-in_err-bytes-clause-only g c = c.in_err-bytes.ensures.only

pub returns-in_err-bytes-clause-steady : goal.returns-in_err-bytes-clause-steady
returns-in_err-bytes-clause-steady g c = c.in_err-bytes.ensures.steady

pub returns-then-header-eq7-clause-only : goal.returns-then-header-eq7-clause-only
returns-then-header-eq7-clause-only g c = c.in_ok-bytes.ensures.only

pub returns-then-header-eq7-clause-steady : goal.returns-then-header-eq7-clause-steady
returns-then-header-eq7-clause-steady g c = c.in_ok-bytes.ensures.steady

pub returns-in_err-fill-clause-only : goal.returns-in_err-fill-clause-only
returns-in_err-fill-clause-only g c = c.in_err-fill.ensures.only

pub returns-in_err-fill-clause-steady : goal.returns-in_err-fill-clause-steady
returns-in_err-fill-clause-steady g c = c.in_err-fill.ensures.steady

pub returns-clause-only : goal.returns-clause-only
returns-clause-only g c = c.in_ok-fill.ensures.only

pub returns-clause-steady : goal.returns-clause-steady
returns-clause-steady g c = c.in_ok-fill.ensures.steady
