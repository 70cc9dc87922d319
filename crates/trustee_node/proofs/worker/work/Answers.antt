use Rattle.std.proofs.Common.{true≢false, refl, sym, ap, ◌∙◌, subst, arith}
use Rattle.std.specs.Option.{option_map}
use Rattle.trustee_core.specs.Approved.{ids_of}
use Rattle.trustee_node.specs.Connections.{clock_state}
use Rattle.trustee_node.specs.Turns.{IsIdle}
use Rattle.trustee_node.specs.Workers.{Worked, worker_state}
use Rattle.trustee_node.proofs.Working.{ends-none, worked-more, worked-none, worked-refused}
use Rattle.trustee_node.proofs.worker.work.Goals as goal

pub loop-init : goal.loop-init
loop-init g c =
    let state = worker_state g.P.Port.state g.C.Clock.told g.C.Clock.answers in
    let is = c.begin.ensures in
    record {
      worked = subst (λ worker. Worked c.args.share.now (option_map (λ b. ids_of b.now) c.args.book) (state c.args.worker.now) (state worker)) (sym is)
          (worked-none c.args.share.now _ (state c.args.worker.now) c.requires.1);
      pass = subst (λ worker. IsIdle c.args.lock.now c.args.share.now worker.pass) (sym is) c.requires;
      count = ap (λ worker. worker.connections) is;
      sound = ap (λ worker. worker.failed) is;
      fresh = ap (λ worker. worker.worn) is;
    }

pub loop-preserved : goal.loop-preserved
loop-preserved g c =
    let state = worker_state g.P.Port.state g.C.Clock.told g.C.Clock.answers in
    let v = c.loop.invariant in
    let a = c.in-Some.ensures in
    let e = c.serve_link-served.ensures in
    let is = c.count.ensures.counted in
    record {
      worked = subst (λ worker. Worked c.args.share.now (option_map (λ b. ids_of b.now) c.args.book) (state c.args.worker.now) (state worker)) (sym is)
          (worked-more c.args.share.now (option_map (λ b. ids_of b.now) c.args.book) (state c.args.worker.now) (state c.loop.worker)
          (g.P.Port.state c.next_link.new.port) (g.P.Port.state c.serve_link-served.new.port) c.serve_link-served.new.pass
          (clock_state g.C.Clock.told g.C.Clock.answers c.serve_link-served.new.clock)
          (g.P.Link.Stream.talk c.in-Some.link) (g.P.Link.Faults.steady c.in-Some.link) (g.P.Link.Sink.room c.in-Some.link) c.serve_link-served.result _ c.count.result c.next_link.new.failed
          v.worked v.sound e.takes a.link a.onward (a.cause.same (λ is. absurd (true≢false (sym is ∙ a.sound)))) e.served e.onward e.clock
          refl c.count.ensures.worn a.sound);
      pass = subst (λ worker. IsIdle c.args.lock.now c.args.share.now worker.pass) (sym is) e.pass;
      count = (let n = v.count in let one = ap (λ worker. worker.connections) is in omega (arith, n, one));
      sound = ap (λ worker. worker.failed) is ∙ a.sound;
      fresh = ap (λ worker. worker.worn) is ∙ cc;
    }

pub returns-in_default-clause-worked : goal.returns-in_default-clause-worked
returns-in_default-clause-worked g c =
    let state = worker_state g.P.Port.state g.C.Clock.told g.C.Clock.answers in
    let v = c.loop.invariant in
    let a = c.in_default.ensures in
    worked-refused c.args.share.now (option_map (λ b. ids_of b.now) c.args.book) (state c.args.worker.now) (state c.loop.worker) (g.P.Port.state c.next_link.new.port) c.next_link.new.failed
    v.worked v.sound (a.none refl).links a.onward a.cause

pub returns-in_default-clause-ends : goal.returns-in_default-clause-ends
returns-in_default-clause-ends g c =
    let state = worker_state g.P.Port.state g.C.Clock.told g.C.Clock.answers in
    let w = c.loop.worker in
    ends-none c.args.connections (state (record w { port = c.next_link.new.port; failed = c.next_link.new.failed })) (g.P.Port.state w.port) c.next_link.new.failed refl (c.in_default.ensures.none refl)

pub returns-then-count-clause-worked : goal.returns-then-count-clause-worked
returns-then-count-clause-worked g c =
    let state = worker_state g.P.Port.state g.C.Clock.told g.C.Clock.answers in
    let v = c.loop.invariant in
    let a = c.in-Some.ensures in
    let e = c.serve_link-served.ensures in
    subst (λ worker. Worked c.args.share.now (option_map (λ b. ids_of b.now) c.args.book) (state c.args.worker.now) (state worker)) (sym c.count.ensures.counted)
    (worked-more c.args.share.now (option_map (λ b. ids_of b.now) c.args.book) (state c.args.worker.now) (state c.loop.worker)
    (g.P.Port.state c.next_link.new.port) (g.P.Port.state c.serve_link-served.new.port) c.serve_link-served.new.pass
    (clock_state g.C.Clock.told g.C.Clock.answers c.serve_link-served.new.clock)
    (g.P.Link.Stream.talk c.in-Some.link) (g.P.Link.Faults.steady c.in-Some.link) (g.P.Link.Sink.room c.in-Some.link) c.serve_link-served.result _ c.count.result c.next_link.new.failed
    v.worked v.sound e.takes a.link a.onward (a.cause.same (λ is. absurd (true≢false (sym is ∙ a.sound)))) e.served e.onward e.clock
    refl c.count.ensures.worn a.sound)

pub serve_link-served-requires-after_bounds : goal.serve_link-served-requires-after_bounds
serve_link-served-requires-after_bounds g c κs within = c.loop.invariant.pass
