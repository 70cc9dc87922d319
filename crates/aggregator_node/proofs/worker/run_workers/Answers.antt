use Rattle.std.proofs.Common.{◌≤◌, ◌<◌, ℕ, get_or, subst, arith}
use Rattle.aggregator_session.specs.Desks.{desk_state}
use Rattle.aggregator_node.specs.Workers.{IsReady, WorkEnds, Worked, worker_state}
use Rattle.aggregator_node.proofs.worker.run_workers.Goals as goal

pub returns-clause-worked : goal.returns-clause-worked
returns-clause-worked g c i d lt =
    let state = worker_state g.P.Port.state g.X.Cells g.X.Faults in
    let change = (c.for_each_mut.ensures i d lt).1 in
    subst (λ worker. Worked (desk_state c.args.desk.now) (state worker) (state (get_or c.for_each_mut.new.s i d))) change.argument_is
    (subst (λ worker. Worked (desk_state c.args.desk.now) (state change.argument.now) (state worker)) change.left change.call.0)

pub returns-clause-ready : goal.returns-clause-ready
returns-clause-ready g c k d lt =
    let change = (c.for_each_mut.ensures k d (subst (λ (n : ℕ). k < n) c.for_each_mut.auto.s lt)).1 in
    subst (λ worker. IsReady g.X.Cells c.args.lock.now c.args.desk.now worker.pass worker.own) change.left change.call.1

pub returns-clause-most : goal.returns-clause-most
returns-clause-most g c k d lt =
    let change = (c.for_each_mut.ensures k d (subst (λ (n : ℕ). k < n) c.for_each_mut.auto.s lt)).1 in
    subst (λ worker. worker.connections ≤ c.args.connections) change.left change.call.2

pub returns-clause-ends : goal.returns-clause-ends
returns-clause-ends g c k d lt =
    let change = (c.for_each_mut.ensures k d (subst (λ (n : ℕ). k < n) c.for_each_mut.auto.s lt)).1 in
    subst (λ worker. WorkEnds c.args.connections (worker_state g.P.Port.state g.X.Cells g.X.Faults worker)) change.left change.call.3

pub returns-then-threads-eq0 : goal.returns-then-threads-eq0
returns-then-threads-eq0 g c =
    let none = c.if-threads-eq0.true in
    record {
      worked = λ i d lt. absurd (omega (arith, lt, none));
      ready = c.requires.ready;
      most = λ i d lt. absurd (omega (arith, lt, none));
      ends = λ i d lt. absurd (omega (arith, lt, none));
    }
