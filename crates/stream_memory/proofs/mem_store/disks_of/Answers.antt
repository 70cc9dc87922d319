use Rattle.std.proofs.Common.{refl}
use Rattle.std.proofs.lemmas.List.{map-append}
use Rattle.stream_memory.specs.MemStore.{file_disk}
use Rattle.stream_memory.proofs.mem_store.disks_of.Goals as goal

pub loop-file-preserved : goal.loop-file-preserved
loop-file-preserved c =
    let yielded = c.loop-file.yielded in
    rw (c.in_ok-push.ensures.items, c.loop-file.invariant, c.in_ok-file_disk.ensures, map-append file_disk yielded) refl
