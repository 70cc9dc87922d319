use Rattle.std.proofs.Common.{refl}
use Rattle.disk_trait.specs.MemDisk.{sync_fails}
use Rattle.stream_memory.proofs.Stable.{sync-images, sync-stable}
use Rattle.stream_memory.proofs.MemFiles.{sync-ok}
use Rattle.stream_memory.proofs.mem_file.sync_unless.Goals as goal

pub returns-clause-images : goal.returns-clause-images
returns-clause-images c =
    let disk = c.args.disk.now in
    rw c.sync.ensures.after (sync-images disk (sync_fails disk))

pub returns-clause-stable : goal.returns-clause-stable
returns-clause-stable c =
    let disk = c.args.disk.now in
    λ _. rw (c.sync.ensures.outcome, c.sync.ensures.after) (sync-stable disk (sync_fails disk))

pub returns-clause-succeeds : goal.returns-clause-succeeds
returns-clause-succeeds c = λ steady. rw (c.sync.ensures.outcome, sync-ok c.args.disk.now steady) refl
