use denote.Param.Send.{sendable}
use Rattle.stream_memory.proofs.Crosses.{waiting_port_send}
use Rattle.tests_streams.proofs.network.waits.serve_both.Goals as goal

pub for_each_mut-requires-send-T : goal.for_each_mut-requires-send-T
for_each_mut-requires-send-T g c κs within = Prim.search (sendable, waiting_port_send)
