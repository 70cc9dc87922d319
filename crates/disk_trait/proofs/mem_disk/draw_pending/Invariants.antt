use Rattle.std.proofs.Common.{◌≡◌, ◌++◌, take, drop}
use Rattle.disk_trait.specs.MemDisk.{filled}
use Rattle.disk_trait.proofs.mem_disk.draw_pending.Given as goal

abbrev pub invariant-loop-i : goal.invariant-loop-i
invariant-loop-i l =
    take l.i l.bytes ++ filled (drop l.i l.bytes) (drop l.i l.pending) l.generator.state ≡ filled l.initial.bytes l.pending l.pick
