use Rattle.std.proofs.Common.{◌≡◌, ◌+◌, ◌≤◌, ◌++◌, List, All, vec_len, vec_capacity}
use Rattle.node_workers.specs.Joined.{Joined}
use Rattle.node_workers.specs.Workers.{IsFree}
use Rattle.node_workers.proofs.end.gather.Given as goal

abbrev pub invariant-loop-worker : goal.invariant-loop-worker
invariant-loop-worker g l =
    record {
      done : List _;
      split : l.fn.workers.items ≡ l.workers.items ++ done;
      joined : Joined done l.pass l.ports.items l.own.items l.totals;
      free : All (λ worker. IsFree l.lock worker.pass) l.workers.items;
      pass : IsFree l.lock l.pass;
      count : vec_len l.ports + vec_len l.workers ≡ vec_len l.fn.workers;
      counts : vec_len l.own + vec_len l.workers ≡ vec_len l.fn.workers;
      room : vec_len l.ports + vec_len l.workers ≤ vec_capacity l.ports;
      space : vec_len l.own + vec_len l.workers ≤ vec_capacity l.own;
    }

abbrev pub decreases-loop-worker : goal.decreases-loop-worker
decreases-loop-worker g l = goal.left-loop-worker g l
