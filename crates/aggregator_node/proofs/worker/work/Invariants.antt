use Rattle.aggregator_session.specs.Desks.{desk_state}
use Rattle.std.proofs.Common.{◌≡◌, false}
use Rattle.aggregator_node.specs.Workers.{IsReady, worker_state}
use Rattle.aggregator_node.proofs.Working.{Working}
use Rattle.aggregator_node.proofs.worker.work.Given as goal

abbrev pub invariant-loop : goal.invariant-loop
invariant-loop g l =
    let state = worker_state g.P.Port.state g.X.Cells g.X.Faults in
    record {
      working : Working (desk_state l.desk) (state l.fn.worker) (state l.worker);
      ready : IsReady g.X.Cells l.lock l.desk l.worker.pass l.worker.own;
      count : l.worker.connections ≡ l.counter;
      sound : l.worker.failed ≡ false;
      fresh : l.worker.worn ≡ false;
    }
