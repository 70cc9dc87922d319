use Rattle.stream_host.specs.RawPorts.{Tries}
use Rattle.stream_host.proofs.raw_port.next_link.Given as goal

-- the calls so far gave no link
abbrev pub invariant-loop : goal.invariant-loop
invariant-loop g l = Tries g.P.RawPort.accepts g.P.RawPort.pauses g.P.RawPort.tells l.counter l.is_short l.initial.port l.port
