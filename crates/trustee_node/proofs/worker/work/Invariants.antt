use Rattle.std.proofs.Common.{◌≡◌, false}
use Rattle.std.specs.Option.{option_map}
use Rattle.trustee_core.specs.Approved.{ids_of}
use Rattle.trustee_node.specs.Turns.{IsIdle}
use Rattle.trustee_node.specs.Workers.{Worked, worker_state}
use Rattle.trustee_node.proofs.worker.work.Given as goal

abbrev pub invariant-loop : goal.invariant-loop
invariant-loop g l =
    let state = worker_state g.P.Port.state g.C.Clock.told g.C.Clock.answers in
    record {
      worked : Worked l.share (option_map (λ b. ids_of b.now) l.book) (state l.fn.worker) (state l.worker);
      pass : IsIdle l.lock l.share l.worker.pass;
      count : l.worker.connections ≡ l.counter;
      sound : l.worker.failed ≡ false;
      fresh : l.worker.worn ≡ false;
    }
