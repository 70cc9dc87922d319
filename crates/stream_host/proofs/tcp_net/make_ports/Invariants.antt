use Rattle.std.proofs.Common.{◌≡◌, All, length, option_map, option_copied}
use Rattle.std.specs.Arc.{arc_value}
use Rattle.stream_host.specs.TcpPort.{buffered_port_state}
use Rattle.stream_host.specs.Untold.{untold_port}
use Rattle.stream_host.proofs.tcp_net.make_ports.Given as goal

abbrev pub invariant-loop : goal.invariant-loop
invariant-loop g l = record {
  place : option_map arc_value l.place ≡ option_copied l.name;
  many : length l.ports.items ≡ l.counter;
  fresh : All (λ port. buffered_port_state port ≡ untold_port (option_copied l.name) 0 0) l.ports.items;
}
