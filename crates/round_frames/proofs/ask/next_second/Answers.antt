use Rattle.std.proofs.Common.{◌≡◌, List, ℕ, ◌+◌, ◌≤◌, ◌∙◌, Ok, ap, arith, length, length-take-le, replicate, subst, take}
use Rattle.std.proofs.lemmas.Result.{err_from_is_err_and}
use Rattle.stream_io.specs.Talk.{Took}
use Rattle.round_frames.specs.Asks.{ask_of, second_ask}
use Rattle.round_frames.proofs.Reading.{ask-split, head-then, only-then, part-missing}
use Rattle.round_frames.proofs.ask.next_second.Goals as goal

pub returns-in_err-fill-clause-told : goal.returns-in_err-fill-clause-told
returns-in_err-fill-clause-told g c told =
    let talk = g.S.Stream.talk in
    let params = c.args.params.now in
    let k = 52 + params.n in
    let small : k ≤ 84 = (let n = params.hash_length in grind (arith, n)) in
    let room : List ℕ = replicate 84 0 in
    let full : length (take k room) ≡ k = length-take-le k room small in
    let p = err_from_is_err_and c.from_residual.result c.from_residual.ensures.1 in
    rw (p.1, p.2) (part-missing (talk c.args.source.now) (talk c.fill.new.source) c.in_err-fill.field-0.0 (length (take k room)) c.args.length
    (λ payload. Ok (second_ask params payload)) (let r = c.requires in omega (arith, full, r)) (c.in_err-fill.ensures.passed told))

pub returns-clause-told : goal.returns-clause-told
returns-clause-told g c told =
    let talk = g.S.Stream.talk in
    let f = c.in_ok-fill.ensures in
    let params = c.args.params.now in
    let k = 52 + params.n in
    let small : k ≤ 84 = (let n = params.hash_length in grind (arith, n)) in
    let full : length (take k (replicate 84 0)) ≡ k = length-take-le k (replicate 84 0) small in
    let head = c.fill.new.out in
    let front : head ≡ take k (talk c.args.source.now).left = f.bytes told ∙ ap (λ n. take n (talk c.args.source.now).left) full in
    let took : Took (talk c.args.source.now) (talk c.fill.new.source) k = subst (Took (talk c.args.source.now) (talk c.fill.new.source)) full (f.passed told) in
    let long : length head ≡ k = ap length front ∙ length-take-le k (talk c.args.source.now).left took.there in
    head-then (talk c.args.source.now) (talk c.fill.new.source) (talk c.finish_second.new.source) c.finish_second.result k c.args.length head
    (λ payload. Ok (second_ask params payload)) (λ message. Ok (ask_of params head message)) c.requires front took
    (λ rest. ap (λ ask. Ok ask) (ask-split params head rest long)) (c.finish_second.ensures.told (f.only.told ∙ told))

pub returns-in_err-fill-clause-only : goal.returns-in_err-fill-clause-only
returns-in_err-fill-clause-only g c = c.in_err-fill.ensures.only

pub returns-in_err-fill-clause-steady : goal.returns-in_err-fill-clause-steady
returns-in_err-fill-clause-steady g c = c.in_err-fill.ensures.steady

pub returns-clause-no_memory : goal.returns-clause-no_memory
returns-clause-no_memory g c = c.finish_second.ensures.no_memory

pub returns-clause-sizes : goal.returns-clause-sizes
returns-clause-sizes g c = c.finish_second.ensures.sizes

pub returns-clause-only : goal.returns-clause-only
returns-clause-only g c = only-then _ _ _ c.in_ok-fill.ensures.only c.finish_second.ensures.only

pub returns-clause-steady : goal.returns-clause-steady
returns-clause-steady g c = c.finish_second.ensures.steady ∙ c.in_ok-fill.ensures.steady
