use denote.Param.Send.{sendable}
use Rattle.stream_memory.proofs.Crosses.{waiting_port_send}
use Rattle.vectors_nodes.proofs.beside.serve.Goals as goal

pub serve_ports-served-requires-send-P : goal.serve_ports-served-requires-send-P
serve_ports-served-requires-send-P g c κs within = Prim.search (sendable, waiting_port_send)
