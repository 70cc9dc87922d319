use Rattle.std.proofs.Common.{[], ◌∷◌, ◌++◌, length, Err, refl, sym, ap, subst, ◌≤◌, ◌∙◌, ℕ, arith, append-nil, true≢false}
use Rattle.trustee_node.specs.Connections.{ServerState, clock_state, read_none}
use Rattle.trustee_node.specs.Replies.{outcome_in, reply_bytes}
use Rattle.trustee_node.proofs.Asking.{heard-more, replied-more}
use Rattle.trustee_node.proofs.Conversing.{dated-none, fresh-is, length-more, read-end, worn-few, worn-is, worn-more}
use Rattle.trustee_node.proofs.Ending.{ends-full, ends-unread, ends-unwritten, ends-worn}
use Rattle.trustee_node.proofs.Serving.{serves-none}
use Rattle.trustee_node.proofs.Turning.{turn_of}
use Rattle.trustee_node.proofs.connection.answer_asks.Goals as goal

pub loop-init : goal.loop-init
loop-init g c =
    let link = g.L.Stream.talk c.args.link.now in
    record {
      turns = [];
      heard = record {
        serves = serves-none c.args.share.now _ c.args.pass.now c.requires.1;
        dated = λ _. dated-none (g.C.Clock.answers c.args.clock.now);
        asks = λ _. read_none link.left;
        all = λ _. refl;
        small = grind arith;
        told = refl;
        place = refl;
      };
      replied = record { written = λ _. sym (append-nil link.written); room = omega arith; quiet = refl };
      pass = c.requires;
      fresh = refl;
      frames = refl;
      many = refl;
      steady = refl;
      clock_told = refl;
    }

pub returns-in-Err-clause-conversation : goal.returns-in-Err-clause-conversation
returns-in-Err-clause-conversation g c =
    let v = c.loop.invariant in
    let r = c.in-Err.ensures in
    ends-unread _ _ _ _ _ _ (g.L.Faults.steady c.args.link.now) _ _ _ v.heard v.replied v.fresh v.frames v.many
    (g.L.Stream.talk c.next_own_ask.new.source) c.in-Err.fault c.end_by-ended.result c.end_by-ended.ensures c.loop-test.true
    r.told r.only r.cause (λ steady. r.answers (v.steady ∙ steady)) r.no_memory

pub returns-in-Err-clause-answers : goal.returns-in-Err-clause-answers
returns-in-Err-clause-answers g c steady same =
    let v = c.loop.invariant in
    c.in-Err.ensures.answers (v.steady ∙ steady) (ap Err (read-end c.in-Err.fault (sym c.end_by-ended.ensures ∙ same)))

pub returns-in-Err-write_reply-clause-conversation : goal.returns-in-Err-write_reply-clause-conversation
returns-in-Err-write_reply-clause-conversation g c =
    let v = c.loop.invariant in
    let r = c.in-Ok.ensures in
    let m = c.now-moment.ensures in
    let d = c.decide_in_turn-answer in
    let w = c.in-Err-write_reply.ensures in
    let turn = turn_of c.in-Ok.ask c.now-moment.result d.ensures.turn.seen (outcome_in d.result) d.ensures.turn.added in
    let new : ServerState = record { pass = d.new.pass; clock = clock_state g.C.Clock.told g.C.Clock.answers c.now-moment.new.self } in
    ends-unwritten _ _ _ _ _ _ (g.L.Faults.steady c.args.link.now) _ _ _ v.heard v.replied v.fresh v.frames v.many new _ _ turn c.loop-test.true r.only
    (heard-more _ _ turn _ _ _ new _ _ _ _ v.heard v.clock_told d.ensures.turn.serves m.answer m.later r.told r.only w.sends.only w.length)
    (worn-few d.result) (r.cause.same (λ is. absurd (cc))) w.sends.wrote w.sends.cause.later w.sends.cause.failed
    (λ steady fits. true≢false (sym (w.sends.succeeds (r.steady ∙ (v.steady ∙ steady))
    (subst (λ (n : ℕ). length (reply_bytes c.args.share.now c.in-Ok.ask (outcome_in d.result)) ≤ n) (g.met.L.Sink.rooms c.next_own_ask.new.source) fits))))

pub returns-then-is_worn-clause-conversation : goal.returns-then-is_worn-clause-conversation
returns-then-is_worn-clause-conversation g c =
    let v = c.loop.invariant in
    let r = c.in-Ok.ensures in
    let m = c.now-moment.ensures in
    let d = c.decide_in_turn-answer in
    let w = c.in_default.ensures in
    let turn = turn_of c.in-Ok.ask c.now-moment.result d.ensures.turn.seen (outcome_in d.result) d.ensures.turn.added in
    let new : ServerState = record { pass = d.new.pass; clock = clock_state g.C.Clock.told g.C.Clock.answers c.now-moment.new.self } in
    ends-worn _ _ _ _ _ _ (g.L.Faults.steady c.args.link.now) _ _ _ v.heard v.replied v.fresh v.frames v.many new _ _ turn c.loop-test.true r.only
    (heard-more _ _ turn _ _ _ new _ _ _ _ v.heard v.clock_told d.ensures.turn.serves m.answer m.later r.told r.only w.sends.only w.length)
    (worn-is d.result (sym c.is_worn.ensures ∙ c.if-is_worn.true))
    (replied-more _ _ turn _ _ _ _ _ _ v.replied v.heard.told r.only (r.cause.same (λ is. absurd (cc))) w.sends.wrote w.sends.cause.succeeded
    (g.met.L.Sink.rooms c.next_own_ask.new.source) (g.met.L.Sink.rooms c.write_reply.new.link) w.sends.room)

pub loop-preserved : goal.loop-preserved
loop-preserved g c =
    let v = c.loop.invariant in
    let r = c.in-Ok.ensures in
    let m = c.now-moment.ensures in
    let d = c.decide_in_turn-answer in
    let w = c.in_default.ensures in
    let turn = turn_of c.in-Ok.ask c.now-moment.result d.ensures.turn.seen (outcome_in d.result) d.ensures.turn.added in
    let new : ServerState = record { pass = d.new.pass; clock = clock_state g.C.Clock.told g.C.Clock.answers c.now-moment.new.self } in
    record {
      turns = v.turns ++ turn ∷ [];
      heard = heard-more _ _ turn _ _ _ new _ _ _ _ v.heard v.clock_told d.ensures.turn.serves m.answer m.later r.told r.only w.sends.only w.length;
      replied = replied-more _ _ turn _ _ _ _ _ _ v.replied v.heard.told r.only (r.cause.same (λ is. absurd (cc))) w.sends.wrote w.sends.cause.succeeded
          (g.met.L.Sink.rooms c.next_own_ask.new.source) (g.met.L.Sink.rooms c.write_reply.new.link) w.sends.room;
      pass = d.ensures.pass;
      fresh = worn-more v.turns turn 0 v.fresh (fresh-is d.result (sym c.is_worn.ensures ∙ c.if-is_worn.false));
      frames = (let a = v.frames in omega (arith, a));
      many = (let b = v.many in omega (arith, b, length-more v.turns turn));
      steady = w.sends.steady ∙ (r.steady ∙ v.steady);
      clock_told = m.told ∙ v.clock_told;
    }

pub returns-clause-conversation : goal.returns-clause-conversation
returns-clause-conversation g c =
    let v = c.loop.invariant in
    ends-full _ _ _ _ _ _ (g.L.Faults.steady c.args.link.now) _ _ _ v.heard v.replied v.fresh v.frames v.many
    (let a = v.many in let b = c.loop-test.false in omega (arith, a, b))
