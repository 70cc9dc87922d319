use Rattle.std.proofs.Common.{◌≡◌, ◌+◌, ◌-◌, ◌<◌, ◌≤◌, ◌*◌, ℕ, suc, true, false, Ok, Err, IsTrue, take, refl, sym, ap, subst, ◌∙◌, arith, inl, inr}
use Rattle.aggregator_session.specs.Faults.{why_of}
use Rattle.std.proofs.lemmas.Bool.{false≢true}
use Rattle.aggregator_session.specs.Hearing.{hear, is_answer, is_heard, kept_in}
use Rattle.aggregator_session.specs.declared.fault.SignFault.TheVariants.{Lost, Stray}
use Rattle.aggregator_session.specs.declared.fault.Why.{Why}
use Rattle.round_frames.specs.Replies.{Reply}
use Rattle.session_core.specs.State.{State, round_of}
use Rattle.aggregator_session.proofs.Hearing.{hear-answered, heard-why, hear-lost, hear-none, hear-passed, lost-cause, lost-reference, none-lost, only-same, only-then, quiet-cause, read-all, read-failed, reads-as, stray-reference}
use Rattle.aggregator_session.proofs.Numbers.{ok-never, steps-done, steps-first, steps-more}
use Rattle.aggregator_session.proofs.Tasks.{same-none, same-then}
use Rattle.aggregator_session.proofs.asks.hear.Goals as goal

-- how many are still to be read
steps : (n : ℕ) → n < 8 → suc (7 - n) + n ≡ 8
steps n lt = omega arith

pub returns-then-is_answer-clause-heard : goal.returns-then-is_answer-clause-heard
returns-then-is_answer-clause-heard g c =
    let v = c.loop.invariant in
    let talk = g.L.Stream.talk in
    let r = c.in-Ok.ensures in
    let s = c.args.session.now in
    let n = c.loop.counter in
    let reply : Reply = (c.in-Ok.head, take c.in-Ok.length c.next_reply.new.body) in
    let old = talk c.args.link.now in
    let mid = talk c.loop.link in
    let new = talk c.next_reply.new.source in
    let is : is_answer s c.args.member reply ≡ true = ap (λ (x : State). is_answer x c.args.member reply) (sym v.session) ∙ sym c.if-is_answer.ensures.answer in
    record {
      answer = Ok reply;
      heard = record {
        only = only-then old mid new v.only r.only;
        all = λ told. read-all mid new (Ok reply) _ (r.told (v.only.told ∙ told)) ∙ v.all told;
        heard = λ told. inl (v.heard told (suc (7 - n)) (steps n c.loop-test.true)
            ∙ hear-answered s c.args.member (7 - n) mid new reply (reads-as _ _ mid new (Ok reply) c.requires.params (r.told (v.only.told ∙ told))) is);
        taken = is;
        lost = tt;
        cause = quiet-cause _ old.count new.count (ok-never _ _) (r.cause.same (ok-never _ _) ∙ v.quiet);
      };
      state = c.if-is_answer.ensures.state ∙ ap (λ (x : State). kept_in x (Ok reply)) v.session;
      told = refl;
    }

pub returns-in-Err-clause-heard : goal.returns-in-Err-clause-heard
returns-in-Err-clause-heard g c =
    let v = c.loop.invariant in
    let talk = g.L.Stream.talk in
    let r = c.in-Err.ensures in
    let s = c.args.session.now in
    let n = c.loop.counter in
    let fault = c.in-Err.fault in
    let old = talk c.args.link.now in
    let mid = talk c.loop.link in
    let new = talk c.next_reply.new.source in
    let round : c.round.result ≡ round_of s = c.round.ensures.round ∙ ap round_of v.session in
    record {
      answer = Err (Lost c.args.member (round_of s) (why_of fault));
      heard = record {
        only = only-then old mid new v.only r.only;
        all = λ told. read-all mid new (Err fault) _ (r.told (v.only.told ∙ told)) ∙ v.all told;
        heard = λ told. elim (hear-lost s c.args.member (7 - n) mid new fault (reads-as _ _ mid new (Err fault) c.requires.params (r.told (v.only.told ∙ told)))) [
          | inl is ↦ inl (v.heard told (suc (7 - n)) (steps n c.loop-test.true) ∙ is)
          | inr is ↦ inr (rw is refl)
        ];
        taken = tt;
        lost = (refl, refl, heard-why fault);
        cause = lost-cause s c.args.member fault old.count mid.count new.count (λ is. r.no_memory (ap Err is)) v.quiet r.cause;
      };
      state = v.session;
      told = rw (round, c.why_of.ensures) refl;
    }

pub loop-preserved : goal.loop-preserved
loop-preserved g c =
    let v = c.loop.invariant in
    let talk = g.L.Stream.talk in
    let r = c.in-Ok.ensures in
    let s = c.args.session.now in
    let n = c.loop.counter in
    let reply : Reply = (c.in-Ok.head, take c.in-Ok.length c.next_reply.new.body) in
    let old = talk c.args.link.now in
    let mid = talk c.loop.link in
    let new = talk c.next_reply.new.source in
    let is : is_answer s c.args.member reply ≡ false = ap (λ (x : State). is_answer x c.args.member reply) (sym v.session) ∙ sym c.if-is_answer.ensures.answer in
    record {
      only = only-then old mid new v.only r.only;
      all = λ told. read-all mid new (Ok reply) _ (r.told (v.only.told ∙ told)) ∙ v.all told;
      heard = λ told most many.
          let more = steps-more most n many in
          v.heard told (suc most) more ∙ hear-passed s c.args.member most mid new reply (reads-as _ _ mid new (Ok reply) c.requires.params (r.told (v.only.told ∙ told))) is;
      quiet = r.cause.same (ok-never _ _) ∙ v.quiet;
      session = c.if-is_answer.ensures.state ∙ v.session;
      steady = r.steady ∙ v.steady;
    }

pub returns-clause-heard : goal.returns-clause-heard
returns-clause-heard g c =
    let v = c.loop.invariant in
    let talk = g.L.Stream.talk in
    let s = c.args.session.now in
    let old = talk c.args.link.now in
    let new = talk c.loop.link in
    let done = steps-done c.loop.counter c.loop-test.false c.loop.auto.counter-end in
    let round : c.round-2.result ≡ round_of s = c.round-2.ensures.round ∙ ap round_of v.session in
    record {
      answer = Err (Stray c.args.member (round_of s));
      heard = record {
        only = v.only;
        all = v.all;
        heard = λ told. inl (v.heard told 0 done ∙ hear-none s c.args.member new.left);
        taken = tt;
        lost = (refl, refl);
        cause = quiet-cause _ old.count new.count (none-lost s c.args.member) v.quiet;
      };
      state = v.session;
      told = rw round refl;
    }

pub returns-then-is_answer-clause-links : goal.returns-then-is_answer-clause-links
returns-then-is_answer-clause-links g c =
    record { dialled = λ lost. lost; reads = λ steady lost. lost; writes = λ steady fits lost. lost }

pub returns-in-Err-clause-links : goal.returns-in-Err-clause-links
returns-in-Err-clause-links g c =
    let r = c.in-Err.ensures in
    let fault = c.in-Err.fault in
    let why = sym c.why_of.ensures in
    let heard = λ (w : Why). IsTrue (is_heard w) in
    record {
      dialled = λ lost. false≢true (subst heard (why ∙ lost) (heard-why fault));
      reads = λ steady lost. r.answers (c.loop.invariant.steady ∙ steady)
          (ap Err (read-failed fault (λ is. r.no_memory (ap Err is)) (why ∙ lost)));
      writes = λ steady fits lost. false≢true (subst heard (why ∙ lost) (heard-why fault));
    }

pub returns-clause-links : goal.returns-clause-links
returns-clause-links g c =
    record { dialled = λ lost. lost; reads = λ steady lost. lost; writes = λ steady fits lost. lost }

pub returns-then-is_answer-clause-reference : goal.returns-then-is_answer-clause-reference
returns-then-is_answer-clause-reference g c = ok-never _ _

pub returns-then-is_answer-clause-same : goal.returns-then-is_answer-clause-same
returns-then-is_answer-clause-same g c =
    same-then _ _ _ (same-none _ _ c.loop.invariant.session) c.if-is_answer.ensures.same

pub returns-in-Err-clause-same : goal.returns-in-Err-clause-same
returns-in-Err-clause-same g c = same-none _ _ c.loop.invariant.session

pub returns-clause-same : goal.returns-clause-same
returns-clause-same g c = same-none _ _ c.loop.invariant.session

pub loop-init : goal.loop-init
loop-init g c =
    let talk = g.L.Stream.talk c.args.link.now in
    record {
      only = only-same talk;
      all = λ told. refl;
      heard = λ told most many. ap (λ (n : ℕ). hear c.args.session.now c.args.member n talk.left) (steps-first most many);
      quiet = refl;
      session = refl;
      steady = refl;
    }

pub returns-in-Err-clause-reference : goal.returns-in-Err-clause-reference
returns-in-Err-clause-reference g c = lost-reference _ _ _

pub returns-clause-reference : goal.returns-clause-reference
returns-clause-reference g c = stray-reference _ _

pub returns-then-is_answer-clause-steady : goal.returns-then-is_answer-clause-steady
returns-then-is_answer-clause-steady g c = c.in-Ok.ensures.steady ∙ c.loop.invariant.steady

pub returns-in-Err-clause-steady : goal.returns-in-Err-clause-steady
returns-in-Err-clause-steady g c = c.in-Err.ensures.steady ∙ c.loop.invariant.steady

pub returns-clause-steady : goal.returns-clause-steady
returns-clause-steady g c = c.loop.invariant.steady

pub next_reply-requires : goal.next_reply-requires
next_reply-requires g c = subst (λ (n : ℕ). c.args.params.now.p * c.args.params.now.n ≤ n) (sym c.loop.auto.room) c.requires.room
