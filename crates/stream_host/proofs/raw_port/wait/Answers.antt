use Rattle.std.proofs.Common.{◌≡◌}
use Rattle.stream_host.specs.RawPorts.{first, later}
use Rattle.stream_host.proofs.raw_port.wait.Goals as goal
use Rattle.stream_host.proofs.raw_port.wait.Goals.{then-not-is_told, else-not-is_told}

pub returns-clause-waits : goal.returns-clause-waits
returns-clause-waits g c = elim c.if-not-is_told.branch [
  | then-not-is_told w ↦ rw w.if-not-is_told.true (first _ _ _ w.tell.ensures (rw w.port-is at c.pause.ensures))
  | else-not-is_told w ↦ rw w.if-not-is_told.false (later _ _ (rw w.port-is at c.pause.ensures))
]
