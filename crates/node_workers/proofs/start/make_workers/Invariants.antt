use Rattle.std.proofs.Common.{◌≡◌, ◌+◌, ◌≤◌, ◌++◌, All, vec_len, vec_capacity}
use Rattle.node_workers.specs.Starting.{fresh_workers}
use Rattle.turn_lock.specs.Pass.{first_pass}
use Rattle.node_workers.proofs.start.make_workers.Given as goal

-- the workers so far, followed by those of the ports that are left, are all workers
abbrev pub invariant-loop-port : goal.invariant-loop-port
invariant-loop-port g l =
    record {
      workers : fresh_workers (first_pass l.lock) l.fn.ports.items l.fn.own.items ≡ l.workers.items ++ fresh_workers (first_pass l.lock) l.ports.items l.own.items;
      first : All (λ pass. pass ≡ first_pass l.lock) l.passes.items;
      many : vec_len l.own ≡ vec_len l.ports;
      passes : vec_len l.passes ≡ vec_len l.ports;
      count : vec_len l.workers + vec_len l.ports ≡ vec_len l.fn.ports;
      room : vec_len l.fn.ports ≤ vec_capacity l.workers;
      home : vec_capacity l.ports ≡ vec_capacity l.fn.ports;
      back : vec_capacity l.own ≡ vec_capacity l.fn.own;
    }

abbrev pub decreases-loop-port : goal.decreases-loop-port
decreases-loop-port g l = vec_len l.ports
