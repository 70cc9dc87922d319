use Rattle.std.proofs.Common.{option_copied}
use Rattle.stream_host.specs.TcpPort.{buffered_port_state}
use Rattle.stream_host.proofs.Ports.{if_makes_ports}
use Rattle.stream_host.proofs.tcp_net.TcpNetNet.ports.Goals as goal

pub returns-clause-made : goal.returns-clause-made
returns-clause-made g c =
    if_makes_ports buffered_port_state _ _ (λ ports. ports.items) c.make_ports-made.result c.note.new.self c.note-2.new.self
    c.args.count (option_copied c.args.place) c.make_ports-made.ensures.many c.make_ports-made.ensures.fresh
