use Rattle.std.proofs.Common.{◌≡◌, ◌-◌, ◌++◌, ◌∙◌, ℕ, List, Ok, Err, ap, sym, arith, drop, take, take_at, length, length-take-le, refl, replicate, subst}
use Rattle.std.proofs.lemmas.Result.{err_from_is_err_and}
use Rattle.stream_io.specs.Talk.{Took}
use Rattle.round_frames.specs.Frames.{payload_in}
use Rattle.round_frames.specs.Reads.{Reads}
use Rattle.round_frames.specs.Replies.{Reply, replies}
use Rattle.round_frames.proofs.Reading.{body-then, in-payload, only-same, only-then, part-missing, payload-fault, no-fault}
use Rattle.round_frames.proofs.reply.next_payload.Goals as goal

pub returns-in-Some-clause-told : goal.returns-in-Some-clause-told
returns-in-Some-clause-told g c told = payload-fault (replies c.args.params.now) c.args.header.now (g.S.Stream.talk c.args.source.now) c.in-Some.fault c.in-Some.ensures.fault

pub returns-in_err-fill-clause-told : goal.returns-in_err-fill-clause-told
returns-in_err-fill-clause-told g c told =
    let talk = g.S.Stream.talk in
    let header = c.args.header.now in
    let reader = replies c.args.params.now in
    let size = c.head_length-size.result in
    let is = c.head_length-size.ensures.length in
    let room : List ℕ = replicate 91 0 in
    let full : length (take size room) ≡ size = length-take-le size room c.head_length-size.ensures.bound in
    let p = err_from_is_err_and c.from_residual.result c.from_residual.ensures.1 in
    rw (p.1, p.2) (in-payload reader header (talk c.args.source.now) (talk c.fill.new.source) _ header.length (reader.value header) c.in_default.ensures.fault refl (λ payload. refl)
    (part-missing (talk c.args.source.now) (talk c.fill.new.source) c.in_err-fill.field-0.0 (length (take size room)) header.length (reader.value header)
    (let h = c.in_default.ensures.head refl in omega (arith, full, is, h)) (c.in_err-fill.ensures.passed told)))

pub returns-in_err-found-clause-told : goal.returns-in_err-found-clause-told
returns-in_err-found-clause-told g c told =
    let talk = g.S.Stream.talk in
    let header = c.args.header.now in
    let params = c.args.params.now in
    let size = c.head_length-size.result in
    let is = c.head_length-size.ensures.length in
    let room : List ℕ = replicate 91 0 in
    let full : length (take size room) ≡ size = length-take-le size room c.head_length-size.ensures.bound in
    let h = c.in_default.ensures.head refl in
    let b = c.in_default.ensures.body refl in
    let r = c.requires in
    let f = c.in_ok-fill.ensures in
    let rest : length (take (header.length - size) c.args.body.now) ≡ header.length - size = length-take-le (header.length - size) c.args.body.now (grind (arith, is, h, b, r)) in
    let p = err_from_is_err_and c.from_residual-in_err-found.result c.from_residual-in_err-found.ensures.1 in
    rw (p.1, p.2) (body-then params header (talk c.args.source.now) (talk c.fill.new.source) (talk c.next_body.new.source) (Err c.in_err-found.field-0.0) c.fill.new.out size (length (take (header.length - size) c.args.body.now))
    c.in_default.ensures.fault is (omega (arith, is, h)) rest (f.bytes told ∙ ap (λ n. take n (talk c.args.source.now).left) full)
    (subst (Took (talk c.args.source.now) (talk c.fill.new.source)) full (f.passed told)) (c.in_err-found.ensures.told (f.only.told ∙ told)))

pub returns-clause-told : goal.returns-clause-told
returns-clause-told g c told =
    let talk = g.S.Stream.talk in
    let header = c.args.header.now in
    let params = c.args.params.now in
    let size = c.head_length-size.result in
    let is = c.head_length-size.ensures.length in
    let room : List ℕ = replicate 91 0 in
    let full : length (take size room) ≡ size = length-take-le size room c.head_length-size.ensures.bound in
    let h = c.in_default.ensures.head refl in
    let b = c.in_default.ensures.body refl in
    let r = c.requires in
    let f = c.in_ok-fill.ensures in
    let left = (talk c.args.source.now).left in
    let rest : length (take (header.length - size) c.args.body.now) ≡ header.length - size = length-take-le (header.length - size) c.args.body.now (grind (arith, is, h, b, r)) in
    let body = c.next_body.new.body in
    let front : take (header.length - size) (body ++ drop (header.length - size) c.args.body.now) ≡ body = take_at body (drop (header.length - size) c.args.body.now) (header.length - size) (c.next_body.auto.body ∙ rest) in
    subst (λ bytes. Reads {V = Reply} (talk c.args.source.now) (talk c.next_body.new.source) (Ok (c.in_ok-found.found, bytes)) (payload_in (replies params) header left)) (sym front)
    (body-then params header (talk c.args.source.now) (talk c.fill.new.source) (talk c.next_body.new.source) (Ok (c.in_ok-found.found, body)) c.fill.new.out size (length (take (header.length - size) c.args.body.now))
    c.in_default.ensures.fault is (omega (arith, is, h)) rest (f.bytes told ∙ ap (λ n. take n left) full)
    (subst (Took (talk c.args.source.now) (talk c.fill.new.source)) full (f.passed told)) (c.in_ok-found.ensures.told (f.only.told ∙ told)))

pub next_body-requires : goal.next_body-requires
next_body-requires g c = c.fill.auto.out ∙ (length-take-le c.head_length-size.result (replicate 91 0) c.head_length-size.ensures.bound ∙ c.head_length-size.ensures.length)

pub overflow_sub-length : goal.overflow_sub-length
overflow_sub-length g c =
    let is = c.head_length-size.ensures.length in
    let h = c.in_default.ensures.head refl in
    omega (arith, is, h)

pub returns-in-Some-clause-only : goal.returns-in-Some-clause-only
returns-in-Some-clause-only g c = only-same (g.S.Stream.talk c.args.source.now)

pub returns-in_err-fill-clause-only : goal.returns-in_err-fill-clause-only
returns-in_err-fill-clause-only g c = c.in_err-fill.ensures.only

pub returns-in_err-fill-clause-steady : goal.returns-in_err-fill-clause-steady
returns-in_err-fill-clause-steady g c = c.in_err-fill.ensures.steady

pub returns-in_err-found-clause-only : goal.returns-in_err-found-clause-only
returns-in_err-found-clause-only g c = only-then _ _ _ c.in_ok-fill.ensures.only c.in_err-found.ensures.only

pub returns-in_err-found-clause-steady : goal.returns-in_err-found-clause-steady
returns-in_err-found-clause-steady g c = c.in_err-found.ensures.steady ∙ c.in_ok-fill.ensures.steady

pub returns-clause-only : goal.returns-clause-only
returns-clause-only g c = only-then _ _ _ c.in_ok-fill.ensures.only c.in_ok-found.ensures.only

pub returns-clause-steady : goal.returns-clause-steady
returns-clause-steady g c = c.in_ok-found.ensures.steady ∙ c.in_ok-fill.ensures.steady

pub returns-clause-answers : goal.returns-clause-answers
returns-clause-answers g c steady = no-fault _ _

pub returns-clause-no_memory : goal.returns-clause-no_memory
returns-clause-no_memory g c = no-fault _ _
