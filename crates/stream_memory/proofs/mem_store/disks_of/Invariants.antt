use Rattle.std.proofs.Common.{◌≡◌, map}
use Rattle.stream_memory.specs.MemStore.{file_disk}
use Rattle.stream_memory.proofs.mem_store.disks_of.Given as goal

abbrev pub invariant-loop-file : goal.invariant-loop-file
invariant-loop-file l = l.disks.items ≡ map file_disk l.yielded
