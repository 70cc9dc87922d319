use Rattle.std.proofs.Common.{◌≡◌, ℕ, Bool, true, false, List, refl, sym, ap, ◌∙◌, arith, if◌then◌else◌, ◌==◌}
use Rattle.std.proofs.lemmas.Bool.Decides.{nat_tests}
use Rattle.aggregator_session.specs.Hearing.{is_answer, is_kept}
use Rattle.aggregator_session.proofs.Tasks.{same-none}
use Rattle.lms_bytes.specs.declared.ask.ReplyHead.{ReplyHead}
use Rattle.round_frames.specs.Replies.{Reply}
use Rattle.session_core.specs.Replies.{answers, step_of, with_delivery}
use Rattle.session_core.specs.Seats.{is_filled, seat_of}
use Rattle.session_core.specs.State.{State, seats_of}
use Rattle.session_core.specs.declared.step.Step.{Step}
use Rattle.session_core.specs.declared.step.Step.TheVariants.{NotMine, Repeat, Kept}
use Rattle.aggregator_session.proofs.asks.is_answer.Goals as goal

-- a reply by whether its head names the member
answer-by : (b : Bool) (s : State) (member : ℕ) (reply : Reply) → (reply.0.member == member) ≡ b → (if b then is_kept (step_of s reply.0 reply.1) else false) ≡ is_answer s member reply
answer-by b s member reply is = ap (λ (x : Bool). if x then is_kept (step_of s reply.0 reply.1) else false) (sym is)

is-other : (a b : ℕ) → (a ≡ b → ⊥) → (a == b) ≡ false
is-other a b other = grind (arith, nat_tests)

is-same : (a b : ℕ) → a ≡ b → (a == b) ≡ true
is-same a b same = grind (arith, nat_tests)

other-answer : (s : State) (member : ℕ) (reply : Reply) → (reply.0.member ≡ member → ⊥) → false ≡ is_answer s member reply
other-answer s member reply other = answer-by false s member reply (is-other reply.0.member member other)

step-answer : (s : State) (member : ℕ) (reply : Reply) (step : Step) → reply.0.member ≡ member → step ≡ step_of s reply.0 reply.1 → is_kept step ≡ is_answer s member reply
step-answer s member reply step same is = ap is_kept is ∙ answer-by true s member reply (is-same reply.0.member member same)

not-kept : (step : Step) → (step ≡ Kept → ⊥) → false ≡ is_kept step
not-kept NotMine never = refl
not-kept Repeat never = refl
not-kept Kept never = absurd (never refl)

-- a reply that is not kept leaves the session as it was
passed-by : (a f : Bool) (s w : State) → ((if a then (if f then Repeat else Kept) else NotMine) ≡ Kept → ⊥) → (if a then (if f then s else w) else s) ≡ s
passed-by true true s w never = refl
passed-by true false s w never = absurd (never refl)
passed-by false f s w never = refl

passed : (s : State) (head : ReplyHead) (body : List ℕ) → (step_of s head body ≡ Kept → ⊥) → with_delivery s head body ≡ s
passed s head body never = passed-by (answers s head body) (is_filled (seat_of (seats_of s) head.member)) s _ never

pub returns-then-head-member-clause-answer : goal.returns-then-head-member-clause-answer
returns-then-head-member-clause-answer c = other-answer c.args.session.now c.args.member (c.args.head.now, c.args.body.now) c.if-head-member.true

pub returns-then-head-member-clause-state : goal.returns-then-head-member-clause-state
returns-then-head-member-clause-state c = refl

pub returns-then-head-member-clause-same : goal.returns-then-head-member-clause-same
returns-then-head-member-clause-same c = same-none _ _ refl

pub returns-in-Kept-clause-answer : goal.returns-in-Kept-clause-answer
returns-in-Kept-clause-answer c =
    step-answer c.args.session.now c.args.member (c.args.head.now, c.args.body.now) Kept c.if-head-member.false (sym c.in-Kept.is ∙ c.take.ensures.step)

pub returns-in-Kept-clause-state : goal.returns-in-Kept-clause-state
returns-in-Kept-clause-state c = c.take.ensures.state

pub returns-in-Kept-clause-same : goal.returns-in-Kept-clause-same
returns-in-Kept-clause-same c = c.take.ensures.ask

pub returns-in_default-clause-answer : goal.returns-in_default-clause-answer
returns-in_default-clause-answer c =
    not-kept c.take.result c.in_default.not-Kept ∙ step-answer c.args.session.now c.args.member (c.args.head.now, c.args.body.now) c.take.result c.if-head-member.false c.take.ensures.step

pub returns-in_default-clause-state : goal.returns-in_default-clause-state
returns-in_default-clause-state c =
    c.take.ensures.state ∙ passed c.args.session.now c.args.head.now c.args.body.now (λ kept. c.in_default.not-Kept (c.take.ensures.step ∙ kept))

pub returns-in_default-clause-same : goal.returns-in_default-clause-same
returns-in_default-clause-same c = c.take.ensures.ask
