use Rattle.std.proofs.Common.{◌≡◌, ◌≤◌, ◌-◌, All, length, map, option_copied}
use Rattle.stream_memory.specs.Nets.{net_state}
use Rattle.stream_memory.specs.Ports.{kept_of, port_state}
use Rattle.stream_memory.proofs.mem_net.MemNet.make_ports.Given as goal
use Rattle.stream_io.specs.Net.{IsNewPort}

abbrev pub invariant-making : goal.invariant-making
invariant-making l = record {
  few : length l.ports.items ≤ l.count;
  made : All (IsNewPort (net_state l.fn.self) (option_copied l.place)) (map (λ port. port_state (kept_of port)) l.ports.items);
  room : (net_state l.fn.self).room ≤ (net_state l.self).room;
  steady : (net_state l.self).steady ≡ (net_state l.fn.self).steady;
  same : l.self ≡ record l.fn.self { scripts = l.self.scripts; gave_steady = l.self.gave_steady };
}

abbrev pub decreases-making : goal.decreases-making
decreases-making l = l.count - length l.ports.items
