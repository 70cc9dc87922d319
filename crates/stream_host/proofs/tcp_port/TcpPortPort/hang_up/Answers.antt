use Rattle.std.proofs.Common.{subst}
use Rattle.stream_host.specs.TcpPort.{port_state}
use Rattle.stream_host.specs.Untold.{untold_talk}
use Rattle.stream_host.proofs.Ended.{ended-same}
use Rattle.stream_host.proofs.tcp_port.TcpPortPort.hang_up.Goals as goal
use Rattle.stream_io.specs.Net.{KeepsTalk}

pub returns-clause-kept : goal.returns-clause-kept
returns-clause-kept g c = record {
  last = untold_talk c.args.link.faults;
  ended = ended-same (untold_talk c.args.link.faults);
  kept = subst (λ faults. KeepsTalk (port_state c.args.self.now) (untold_talk faults) (port_state c.count_link.new.self))
      c.faults.ensures c.count_link.ensures.kept;
}
