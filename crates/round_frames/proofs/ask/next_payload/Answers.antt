use Rattle.std.proofs.Common.{◌≡◌, ◌==◌, Option, None, Result, Ok, Err, IfOk, IfSome, false, length, ne_eqb, refl, subst, sym}
use Rattle.lms_bytes.specs.declared.ask.Ask.{Ask}
use Rattle.lms_bytes.specs.declared.ask.Second.{Second}
use Rattle.lms_bytes.specs.declared.params.Params.{Params}
use Rattle.round_frames.specs.Asks.{HasSizes, asks, first_ask, second_ask}
use Rattle.round_frames.specs.declared.fault.FrameFault.{FrameFault}
use Rattle.round_frames.proofs.Reading.{in-payload, only-same, payload-fault}
use Rattle.round_frames.proofs.ask.next_payload.Goals as goal

pub returns-in-Some-clause-told : goal.returns-in-Some-clause-told
returns-in-Some-clause-told g c told = payload-fault (asks c.args.params.now) c.args.header.now (g.S.Stream.talk c.args.source.now) c.in-Some.fault c.in-Some.ensures.fault

pub returns-then-header-eq1-clause-told : goal.returns-then-header-eq1-clause-told
returns-then-header-eq1-clause-told g c told =
    let talk = g.S.Stream.talk in
    let one = c.if-header-eq1.true in
    in-payload (asks c.args.params.now) c.args.header.now (talk c.args.source.now) (talk c.next_first.new.source) c.next_first.result 56 (λ payload. Ok (first_ask payload))
    c.in_default.ensures.fault (c.in_default.ensures.first refl one) (λ payload. rw one refl) (c.next_first.ensures.told told)

pub returns-else-header-eq1-clause-told : goal.returns-else-header-eq1-clause-told
returns-else-header-eq1-clause-told g c told =
    let talk = g.S.Stream.talk in
    let header = c.args.header.now in
    let test : (header.kind == 1) ≡ false = ne_eqb header.kind 1 c.if-header-eq1.false in
    in-payload (asks c.args.params.now) header (talk c.args.source.now) (talk c.next_second.new.source) c.next_second.result header.length (λ payload. Ok (second_ask c.args.params.now payload))
    c.in_default.ensures.fault refl (λ payload. rw test refl) (c.next_second.ensures.told told)

sizes-first : (params : Params) (result : Result Ask FrameFault) → IfOk result (λ ask. ask.second ≡ None) → IfOk result (HasSizes params)
sizes-first params (Ok ask) none = subst (λ (o : Option Second). IfSome o (λ second. (length second.c ≡ params.n) × (length second.digest ≡ params.n))) (sym none) tt
sizes-first params (Err fault) none = tt

pub returns-then-header-eq1-clause-sizes : goal.returns-then-header-eq1-clause-sizes
returns-then-header-eq1-clause-sizes g c = sizes-first c.args.params.now c.next_first.result c.next_first.ensures.first

pub returns-then-header-eq1-clause-only : goal.returns-then-header-eq1-clause-only
returns-then-header-eq1-clause-only g c = c.next_first.ensures.only

pub returns-then-header-eq1-clause-cause : goal.returns-then-header-eq1-clause-cause
returns-then-header-eq1-clause-cause g c = c.next_first.ensures.cause

pub returns-then-header-eq1-clause-answers : goal.returns-then-header-eq1-clause-answers
returns-then-header-eq1-clause-answers g c = c.next_first.ensures.answers

pub returns-then-header-eq1-clause-steady : goal.returns-then-header-eq1-clause-steady
returns-then-header-eq1-clause-steady g c = c.next_first.ensures.steady

pub returns-then-header-eq1-clause-no_memory : goal.returns-then-header-eq1-clause-no_memory
returns-then-header-eq1-clause-no_memory g c = c.next_first.ensures.no_memory

pub returns-else-header-eq1-clause-only : goal.returns-else-header-eq1-clause-only
returns-else-header-eq1-clause-only g c = c.next_second.ensures.only

pub returns-else-header-eq1-clause-cause : goal.returns-else-header-eq1-clause-cause
returns-else-header-eq1-clause-cause g c = c.next_second.ensures.cause

pub returns-else-header-eq1-clause-answers : goal.returns-else-header-eq1-clause-answers
returns-else-header-eq1-clause-answers g c = c.next_second.ensures.answers

pub returns-else-header-eq1-clause-steady : goal.returns-else-header-eq1-clause-steady
returns-else-header-eq1-clause-steady g c = c.next_second.ensures.steady

pub returns-else-header-eq1-clause-no_memory : goal.returns-else-header-eq1-clause-no_memory
returns-else-header-eq1-clause-no_memory g c = c.next_second.ensures.no_memory

pub returns-else-header-eq1-clause-sizes : goal.returns-else-header-eq1-clause-sizes
returns-else-header-eq1-clause-sizes g c = c.next_second.ensures.sizes

pub returns-in-Some-clause-only : goal.returns-in-Some-clause-only
returns-in-Some-clause-only g c = only-same (g.S.Stream.talk c.args.source.now)
