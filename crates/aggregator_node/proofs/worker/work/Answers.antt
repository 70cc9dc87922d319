use Rattle.aggregator_session.specs.Desks.{desk_state}
use Rattle.std.proofs.Common.{◌+◌, ◌≤◌, ℕ, true≢false, refl, sym, ap, ◌∙◌, subst}
use Rattle.aggregator_node.specs.Ports.{reference_state}
use Rattle.aggregator_node.specs.Workers.{IsReady, WorkEnds, Worked, pass_worn, worker_state}
use Rattle.aggregator_node.proofs.Working.{Working, accepted-as, ends-all, ends-none, link-worn, one-below, worked-all, worked-refused, working-more, working-none}
use Rattle.aggregator_node.proofs.worker.work.Goals as goal

pub loop-init : goal.loop-init
loop-init g c =
    let state = worker_state g.P.Port.state g.X.Cells g.X.Faults in
    let is = c.begin.ensures in
    record {
      working = subst (λ worker. Working (desk_state c.args.desk.now) (state c.args.worker.now) (state worker)) (sym is)
          (working-none (desk_state c.args.desk.now) (state c.args.worker.now));
      ready = subst (λ worker. IsReady g.X.Cells c.args.lock.now c.args.desk.now worker.pass worker.own) (sym is) c.requires.ready;
      count = ap (λ worker. worker.connections) is;
      sound = ap (λ worker. worker.failed) is;
      fresh = ap (λ worker. worker.worn) is;
    }

pub loop-preserved : goal.loop-preserved
loop-preserved g c =
    let state = worker_state g.P.Port.state g.X.Cells g.X.Faults in
    let v = c.loop.invariant in
    let a = c.in-Some.ensures in
    let e = c.serve_link-served.ensures in
    let is = c.count.ensures.counted in
    record {
      working = subst (λ worker. Working (desk_state c.args.desk.now) (state c.args.worker.now) (state worker)) (sym is)
          (working-more (desk_state c.args.desk.now) (state c.args.worker.now) (state c.loop.worker) (g.P.Port.state c.next_link.new.port) _
          (reference_state g.X.Cells g.X.Faults c.serve_link-served.new.cells)
          (g.P.Link.Stream.talk c.in-Some.link) (g.P.Link.Faults.steady c.in-Some.link) c.serve_link-served.result _ c.count.result c.next_link.new.failed
          v.working (accepted-as _ _ _ _ _ _ e.takes a.link) a.onward (a.cause.same (λ is. absurd (true≢false (sym is ∙ a.sound)))) e.served
          (record { told = e.cells.told; steady = e.cells.steady; leaves = e.cells.leaves }) refl);
      ready = subst (λ worker. IsReady g.X.Cells c.args.lock.now c.args.desk.now worker.pass worker.own) (sym is) e.ready;
      count = ap (λ worker. worker.connections) is ∙ ap (λ (n : ℕ). n + 1) v.count;
      sound = ap (λ worker. worker.failed) is ∙ a.sound;
      fresh = ap (λ worker. worker.worn) is ∙ c.if-count.false;
    }

pub returns-in_default-clause-worked : goal.returns-in_default-clause-worked
returns-in_default-clause-worked g c =
    let state = worker_state g.P.Port.state g.X.Cells g.X.Faults in
    let v = c.loop.invariant in
    let a = c.in_default.ensures in
    worked-refused (desk_state c.args.desk.now) (state c.args.worker.now) (state c.loop.worker) (g.P.Port.state c.next_link.new.port) c.next_link.new.failed v.working
    (a.none refl).links a.onward a.cause v.fresh

pub returns-in_default-clause-ends : goal.returns-in_default-clause-ends
returns-in_default-clause-ends g c =
    let state = worker_state g.P.Port.state g.X.Cells g.X.Faults in
    let w = c.loop.worker in
    ends-none c.args.connections (state (record w { port = c.next_link.new.port; failed = c.next_link.new.failed })) (g.P.Port.state w.port) c.next_link.new.failed refl (c.in_default.ensures.none refl)

pub returns-then-count-clause-worked : goal.returns-then-count-clause-worked
returns-then-count-clause-worked g c =
    let desk = desk_state c.args.desk.now in
    let state = worker_state g.P.Port.state g.X.Cells g.X.Faults in
    let v = c.loop.invariant in
    let a = c.in-Some.ensures in
    let e = c.serve_link-served.ensures in
    let is = c.count.ensures.counted in
    subst (λ worker. Worked desk (state c.args.worker.now) (state worker)) (sym is)
    (worked-all desk (state c.args.worker.now) _
    (working-more desk (state c.args.worker.now) (state c.loop.worker) (g.P.Port.state c.next_link.new.port) _
    (reference_state g.X.Cells g.X.Faults c.serve_link-served.new.cells)
    (g.P.Link.Stream.talk c.in-Some.link) (g.P.Link.Faults.steady c.in-Some.link) c.serve_link-served.result _ c.count.result c.next_link.new.failed
    v.working (accepted-as _ _ _ _ _ _ e.takes a.link) a.onward (a.cause.same (λ is. absurd (true≢false (sym is ∙ a.sound)))) e.served
    (record { told = e.cells.told; steady = e.cells.steady; leaves = e.cells.leaves }) refl)
    a.sound (λ worn. link-worn desk _ _ _ _ _ _ e.served (c.count.ensures.worn worn)))

pub returns-clause-worked : goal.returns-clause-worked
returns-clause-worked g c =
    let state = worker_state g.P.Port.state g.X.Cells g.X.Faults in
    let v = c.loop.invariant in
    worked-all (desk_state c.args.desk.now) (state c.args.worker.now) (state c.loop.worker) v.working v.sound (λ is. absurd (true≢false (sym is ∙ v.fresh)))

pub returns-clause-ready : goal.returns-clause-ready
returns-clause-ready g c = c.loop.invariant.ready

pub returns-in_default-clause-ready : goal.returns-in_default-clause-ready
returns-in_default-clause-ready g c = c.loop.invariant.ready

pub returns-then-count-clause-ready : goal.returns-then-count-clause-ready
returns-then-count-clause-ready g c =
    subst (λ worker. IsReady g.X.Cells c.args.lock.now c.args.desk.now worker.pass worker.own) (sym c.count.ensures.counted) c.serve_link-served.ensures.ready

pub returns-clause-most : goal.returns-clause-most
returns-clause-most g c = subst (λ (n : ℕ). n ≤ c.args.connections) (sym c.loop.invariant.count) c.loop.auto.counter-end

pub returns-in_default-clause-most : goal.returns-in_default-clause-most
returns-in_default-clause-most g c = subst (λ (n : ℕ). n ≤ c.args.connections) (sym c.loop.invariant.count) c.loop.auto.counter-end

pub returns-then-count-clause-most : goal.returns-then-count-clause-most
returns-then-count-clause-most g c =
    subst (λ worker. worker.connections ≤ c.args.connections) (sym c.count.ensures.counted)
    (one-below c.loop.worker.connections c.loop.counter c.args.connections c.loop.invariant.count c.loop-test.true)

pub returns-clause-ends : goal.returns-clause-ends
returns-clause-ends g c =
    let v = c.loop.invariant in
    ends-all c.args.connections c.loop.counter (worker_state g.P.Port.state g.X.Cells g.X.Faults c.loop.worker) v.count c.loop.auto.counter-end c.loop-test.false v.sound

pub returns-then-count-clause-ends : goal.returns-then-count-clause-ends
returns-then-count-clause-ends g c =
    subst (λ worker. WorkEnds c.args.connections (worker_state g.P.Port.state g.X.Cells g.X.Faults worker)) (sym c.count.ensures.counted) (pass_worn c.if-count.true c.in-Some.ensures.sound)

pub serve_link-served-requires-clause-ready : goal.serve_link-served-requires-clause-ready
serve_link-served-requires-clause-ready g c κs within = c.loop.invariant.ready
