-- What is heard from a member that has not answered: what the session's start would hear.
use Rattle.std.proofs.Common.{◌≡◌, ◌++◌, ◌≤◌, ℕ, zero, suc, ◌==◌, Bool, true, false, List, drop, IsTrue, Result, Ok, Err, IfOk, if◌then◌else◌, inl, inr, refl, sym, ap, subst, ◌∙◌, arith}
use Rattle.std.proofs.lemmas.Bool.{eqb-true}
use Rattle.aggregator_session.specs.Hearing.{Asked, Came, awaited, by_frame, hear, is_answer, is_kept, or_lost, unwritten}
use Rattle.aggregator_session.specs.declared.fault.SignFault.{SignFault}
use Rattle.disk_trait.specs.Faults.{Rose}
use Rattle.lms_bytes.specs.declared.ask.ReplyHead.{ReplyHead}
use Rattle.lms_bytes.specs.declared.params.Params.{Params}
use Rattle.round_frames.specs.Frames.{Says, frame_of}
use Rattle.round_frames.specs.Replies.{Reply, replies}
use Rattle.round_frames.specs.declared.fault.FrameFault.{FrameFault}
use Rattle.session_core.specs.Replies.{answers, step_of}
use Rattle.session_core.specs.Seats.{is_filled, seat_of}
use Rattle.session_core.specs.State.{State, round_of, seats_of}
use Rattle.session_core.specs.declared.step.Step.TheVariants.{Kept, NotMine, Repeat}
use Rattle.stream_io.specs.Talk.{Talk}

-- two sessions that take the same replies of a member
pub record SameEar (s z : State) (member : ℕ) : Type 0 where
  pub params : s.key.params ≡ z.key.params
  pub round : round_of s ≡ round_of z
  pub step : (head : ReplyHead) (body : List ℕ) → head.member ≡ member → step_of s head body ≡ step_of z head body

answer-of : (s z : State) (member : ℕ) (reply : Reply) (test : Bool) → reply.0.member == member ≡ test → SameEar s z member → is_answer s member reply ≡ is_answer z member reply
answer-of s z member reply true is same =
    let here : reply.0.member ≡ member = eqb-true reply.0.member member is in
    rw (is, same.step reply.0 reply.1 here) refl
answer-of s z member reply false is same = rw is refl

if-same : (test : Bool) (x y y' : Came) → y ≡ y' → (if test then x else y) ≡ (if test then x else y')
if-same true x y y' is = refl
if-same false x y y' is = is

frame-same : (s z : State) (member : ℕ) (next next' : List ℕ → Came) (rest : List ℕ) (result : Result Reply SignFault) → SameEar s z member → next rest ≡ next' rest
    → by_frame s member next rest result ≡ by_frame z member next' rest result
frame-same s z member next next' rest (Err fault) same is = refl
frame-same s z member next next' rest (Ok reply) same is =
    rw (answer-of s z member reply (reply.0.member == member) refl same) (if-same (is_answer z member reply) (record { answer = Ok reply; rest = rest }) (next rest) (next' rest) is)

lost-same : (s z : State) (member : ℕ) (result : Result Reply FrameFault) → round_of s ≡ round_of z → or_lost s member result ≡ or_lost z member result
lost-same s z member (Ok reply) is = refl
lost-same s z member (Err fault) is = rw is refl

hear-none : (s z : State) (member : ℕ) (bytes : List ℕ) → round_of s ≡ round_of z → hear s member zero bytes ≡ hear z member zero bytes
unfolding hear
hear-none s z member bytes is = rw is refl

pub hear-more : (s : State) (member most : ℕ) (bytes : List ℕ) → hear s member (suc most) bytes
    ≡ by_frame s member (hear s member most) (drop (frame_of (replies s.key.params) bytes).size bytes) (or_lost s member (frame_of (replies s.key.params) bytes).result)
unfolding hear
hear-more s member most bytes = refl

pub hear-same : (s z : State) (member most : ℕ) (bytes : List ℕ) → SameEar s z member → hear s member most bytes ≡ hear z member most bytes
hear-same s z member zero bytes same = hear-none s z member bytes same.round
hear-same s z member (suc most) bytes same =
    let said : Params → Says Reply = λ params. frame_of (replies params) bytes in
    let rest : ℕ → List ℕ = λ size. drop size bytes in
    let later = hear-same s z member most (drop (frame_of (replies z.key.params) bytes).size bytes) same in
    hear-more s member most bytes
    ∙ (ap (λ (p : Params). by_frame s member (hear s member most) (drop (frame_of (replies p) bytes).size bytes) (or_lost s member (frame_of (replies p) bytes).result)) same.params
    ∙ (ap (λ (r : Result Reply SignFault). by_frame s member (hear s member most) (drop (frame_of (replies z.key.params) bytes).size bytes) r)
    (lost-same s z member (frame_of (replies z.key.params) bytes).result same.round)
    ∙ (frame-same s z member (hear s member most) (hear z member most) (drop (frame_of (replies z.key.params) bytes).size bytes)
    (or_lost z member (frame_of (replies z.key.params) bytes).result) same later ∙ sym (hear-more z member most bytes))))

-- what a call of a link keeps
pub record Later (old new : Talk) : Type 0 where
  pub told : new.told ≡ old.told
  pub given : IsTrue old.told → new.taken ++ new.left ≡ old.taken ++ old.left
  pub count : old.count ≤ new.count

pub asked-later : (s : State) (member : ℕ) (frame : List ℕ) (old new : Talk) (answer : Result Reply SignFault) → Asked s member frame old new answer → Later old new
asked-later s member frame old new answer (unwritten only wrote rose) = record {
  told = only.told;
  given = λ told. rw (only.taken, only.left) refl;
  count = only.count;
}
asked-later s member frame old new answer (awaited mid a only quiet wrote h) = record {
  told = h.only.told ∙ only.told;
  given = λ told. h.all (only.told ∙ told) ∙ rw (only.taken, only.left) refl;
  count =
      let a = only.count in
      let b = h.only.count in
      omega arith;
}

-- a call that failed shows in the link's count
no-fault : (before now : ℕ) → now ≡ 0 → Rose before now → ⊥
no-fault before now is rose = absurd (omega arith)

-- what the bytes of a link say is what is heard from its member, if no call of the link failed
pub record Came-as (answer : Result Reply SignFault) (new : Talk) (reply : Reply) (rest : List ℕ) : Type 0 where
  pub answer_is : answer ≡ Ok reply
  pub left : new.left ≡ rest

pub asked-hears : (s : State) (member : ℕ) (frame : List ℕ) (old new : Talk) (answer : Result Reply SignFault) (reply : Reply) (rest : List ℕ) → Asked s member frame old new answer
    → IsTrue old.told → new.count ≡ 0 → hear s member 8 old.left ≡ record { answer = Ok reply; rest = rest } → Came-as answer new reply rest
asked-hears s member frame old new answer reply rest (unwritten only wrote rose) told quiet says = absurd (no-fault old.count new.count quiet rose)
asked-hears s member frame old new answer reply rest (awaited mid a only unchanged wrote h) told quiet says = elim (h.heard (only.told ∙ told)) [
  | inl heard ↦
      let here : record { answer = answer; rest = new.left } ≡ record { answer = Ok reply; rest = rest } = sym heard ∙ (ap (hear s member 8) only.left ∙ says) in
      record { answer_is = ap (λ (c : Came). c.answer) here; left = ap (λ (c : Came). c.rest) here }
  | inr silent ↦ absurd (no-fault mid.count new.count quiet (h.cause.rose silent))
]

step-kept : (a f : Bool) → is_kept (if a then (if f then Repeat else Kept) else NotMine) ≡ true → (a ≡ true) × (f ≡ false)
step-kept true true is = absurd (cc)
step-kept true false is = (refl, refl)
step-kept false f is = absurd (cc)

-- a reply that is heard is of the member, and the session keeps it
pub record Taken (s : State) (member : ℕ) (reply : Reply) : Type 0 where
  pub own : reply.0.member ≡ member
  pub answers_it : answers s reply.0 reply.1 ≡ true
  pub first : is_filled (seat_of (seats_of s) reply.0.member) ≡ false

taken-by : (s : State) (member : ℕ) (reply : Reply) (test : Bool) → reply.0.member == member ≡ test → is_answer s member reply ≡ true → Taken s member reply
taken-by s member reply false is hit =
    let no : is_answer s member reply ≡ false = rw is refl in
    absurd (cc)
taken-by s member reply true is hit =
    let kept : is_kept (step_of s reply.0 reply.1) ≡ true = sym (rw is refl) ∙ hit in
    let both = step-kept (answers s reply.0 reply.1) (is_filled (seat_of (seats_of s) reply.0.member)) kept in
    record { own = eqb-true reply.0.member member is; answers_it = both.0; first = both.1 }

asked-answer : (s : State) (member : ℕ) (frame : List ℕ) (old new : Talk) (answer : Result Reply SignFault) (reply : Reply) → Asked s member frame old new answer → answer ≡ Ok reply
    → IsTrue (is_answer s member reply)
asked-answer s member frame old new answer reply (unwritten only wrote rose) is = absurd (cc)
asked-answer s member frame old new answer reply (awaited mid a only unchanged wrote h) is =
    subst (λ (r : Result Reply SignFault). IfOk r (λ x. IsTrue (is_answer s member x))) is h.taken

pub asked-taken : (s : State) (member : ℕ) (frame : List ℕ) (old new : Talk) (answer : Result Reply SignFault) (reply : Reply) → Asked s member frame old new answer → answer ≡ Ok reply
    → Taken s member reply
asked-taken s member frame old new answer reply asks is = taken-by s member reply (reply.0.member == member) refl (asked-answer s member frame old new answer reply asks is)
