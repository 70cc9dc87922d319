use Rattle.std.proofs.Common.{◌≡◌, ◌-◌, ◌++◌, ◌∙◌, ℕ, List, Result, Ok, ap, arith, drop, take, take_at, drop_at, inr, length, length-take-le, refl}
use Rattle.std.proofs.lemmas.Result.{err_from_is_err_and}
use Rattle.std.specs.Int.{w16, from_be_bytes}
use Rattle.coalition_map.specs.Members.{member_numbers}
use Rattle.round_frames.specs.Requests.{requests}
use Rattle.round_frames.specs.declared.fault.FrameFault.{FrameFault}
use Rattle.round_frames.specs.declared.fault.FrameFault.TheVariants.{NoMemory}
use Rattle.round_frames.proofs.Reading.{all-there, head-then, in-payload, not-err, part-missing, payload-fault, rest-missing, only-same, only-then}
use Rattle.round_frames.proofs.request.next_payload.Goals as goal

pub returns-in-Some-clause-told : goal.returns-in-Some-clause-told
returns-in-Some-clause-told g c told = inr (payload-fault requests c.args.header.now (g.S.Stream.talk c.args.source.now) c.in-Some.fault c.in-Some.ensures.fault)

pub returns-in_err-fill-clause-told : goal.returns-in_err-fill-clause-told
returns-in_err-fill-clause-told g c told =
    let talk = g.S.Stream.talk in
    let header = c.args.header.now in
    let p = err_from_is_err_and c.from_residual.result c.from_residual.ensures.1 in
    rw (p.1, p.2) (inr (in-payload requests header (talk c.args.source.now) (talk c.fill.new.source) _ header.length (requests.value header) c.in_default.ensures.fault refl (λ payload. refl)
    (part-missing (talk c.args.source.now) (talk c.fill.new.source) c.in_err-fill.field-0.0 2 header.length (requests.value header) (c.in_default.ensures.length refl) (c.in_err-fill.ensures.passed told))))

pub returns-in_err-message-clause-told : goal.returns-in_err-message-clause-told
returns-in_err-message-clause-told g c told =
    let talk = g.S.Stream.talk in
    let header = c.args.header.now in
    let f = c.in_ok-fill.ensures in
    let p = err_from_is_err_and c.from_residual-in_err-message.result c.from_residual-in_err-message.ensures.1 in
    rw (p.1, p.2) (rest-missing requests header (talk c.args.source.now) (talk c.fill.new.source) (talk c.take_bytes.new.source) c.in_err-message.field-0.0 2 (header.length - 2)
    c.in_default.ensures.fault (let l = c.in_default.ensures.length refl in omega (arith, l)) (f.passed told) (c.in_err-message.ensures.passed (f.only.told ∙ told)))

abbrev request-of : List ℕ → List ℕ → Result (List ℕ × List ℕ) FrameFault
request-of head message = Ok (member_numbers (from_be_bytes w16 head), message)

message-split : (head rest : List ℕ) → length head ≡ 2 → request-of (take 2 (head ++ rest)) (drop 2 (head ++ rest)) ≡ request-of head rest
message-split head rest two =
    ap (λ h. request-of h (drop 2 (head ++ rest))) (take_at head rest 2 two) ∙ ap (request-of head) (drop_at head rest 2 two)

same-request : (head message members bytes : List ℕ) → members ≡ member_numbers (from_be_bytes w16 head) → bytes ≡ message → Ok (members, bytes) ≡ request-of head message
same-request head message members bytes m b = rw (m, b) refl

pub returns-clause-told : goal.returns-clause-told
returns-clause-told g c told =
    let talk = g.S.Stream.talk in
    let header = c.args.header.now in
    let f = c.in_ok-fill.ensures in
    let m = c.in_ok-message.ensures in
    let later = f.only.told ∙ told in
    let head = c.fill.new.out in
    let next : List ℕ → Result (List ℕ × List ℕ) FrameFault = request-of head in
    let took = f.passed told in
    let two : length head ≡ 2 = ap length (f.bytes told) ∙ length-take-le 2 (talk c.args.source.now).left took.there in
    inr (in-payload requests header (talk c.args.source.now) (talk c.take_bytes.new.source) _ header.length (requests.value header) c.in_default.ensures.fault refl (λ payload. refl)
    (head-then (talk c.args.source.now) (talk c.fill.new.source) (talk c.take_bytes.new.source) _ 2 header.length head (requests.value header) next
    (c.in_default.ensures.length refl) (f.bytes told) took (λ rest. message-split head rest two)
    (all-there (talk c.fill.new.source) (talk c.take_bytes.new.source) _ (header.length - 2) next (not-err _ NoMemory (m.passed later))
    (same-request head (take (header.length - 2) (talk c.fill.new.source).left) c.of_bits.result c.in_ok-message.message.items (c.of_bits.ensures ∙ ap member_numbers c.from_be_bytes.ensures) (m.bytes later)))))

pub returns-in-Some-clause-only : goal.returns-in-Some-clause-only
returns-in-Some-clause-only g c = only-same (g.S.Stream.talk c.args.source.now)

pub returns-in_err-message-clause-only : goal.returns-in_err-message-clause-only
returns-in_err-message-clause-only g c = only-then _ _ _ c.in_ok-fill.ensures.only c.in_err-message.ensures.only

pub returns-in_err-message-clause-steady : goal.returns-in_err-message-clause-steady
returns-in_err-message-clause-steady g c = c.in_err-message.ensures.steady ∙ c.in_ok-fill.ensures.steady

pub returns-clause-only : goal.returns-clause-only
returns-clause-only g c = only-then _ _ _ c.in_ok-fill.ensures.only c.in_ok-message.ensures.only

pub returns-clause-steady : goal.returns-clause-steady
returns-clause-steady g c = c.in_ok-message.ensures.steady ∙ c.in_ok-fill.ensures.steady
