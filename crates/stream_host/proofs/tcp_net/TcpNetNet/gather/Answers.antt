use Rattle.std.proofs.Common.{map, subst}
use Rattle.stream_host.specs.TcpPort.{buffered_port_state}
use Rattle.stream_host.specs.Untold.{untold_net}
use Rattle.stream_host.proofs.Ports.{gathers}
use Rattle.stream_io.specs.Net.{Gathers}
use Rattle.stream_host.proofs.tcp_net.TcpNetNet.gather.Goals as goal

pub returns-clause-kept : goal.returns-clause-kept
returns-clause-kept g c =
    let store = c.args.self.now in
    subst (λ ports. Gathers (untold_net store.faults store.port_faults) (map buffered_port_state ports)
    (untold_net c.add_where.new.self c.add_where-2.new.self))
    c.as_slice-all.ensures.value
    (gathers buffered_port_state _ _ _ _ c.as_slice-all.result.now c.some_failed.result c.some_unaccepted.result
    c.some_failed.ensures.some c.some_failed.ensures.none
    c.some_unaccepted.ensures.some c.some_unaccepted.ensures.none
    c.add_where.ensures.rises c.add_where-2.ensures.rises)
