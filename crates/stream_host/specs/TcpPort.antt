-- A port over sockets, as contracts see it.
use Rattle.std.specs.Prelude.{option_map}
use Rattle.std.specs.Arc.{arc_value}
use Rattle.stream_host.specs.Untold.{untold_port}
use Rattle.stream_host.specs.declared.buffered_port.BufferedPort.{BufferedPort}
use Rattle.stream_host.specs.declared.tcp_port.TcpPort.{TcpPort}
use Rattle.stream_io.specs.Net.{PortState}

-- it tells its place and its counts of faults, and nothing else
abbrev pub port_state : {R S L : Type 0} → TcpPort R S L → PortState
port_state port = untold_port (option_map arc_value port.place) port.faults port.accept_faults

-- the same of one whose links are buffered
abbrev pub buffered_port_state : {R S L : Type 0} → BufferedPort (TcpPort R S L) → PortState
buffered_port_state port = port_state port.port
