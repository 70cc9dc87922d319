use Rattle.disk_trait.specs.MemDisk.{sync_fails}
use Rattle.stream_memory.proofs.Stable.{sync-images, sync-stable}
use Rattle.std.proofs.Common.{refl}
use Rattle.stream_memory.proofs.MemFiles.{sync-ok}
use Rattle.stream_memory.proofs.stored_disk.StoredDiskDisk.sync.Goals as goal

pub returns-clause-stable : goal.returns-clause-stable
returns-clause-stable c =
    let disk = c.args.self.now.disk in
    λ honest told. rw (c.count.ensures.same, c.sync-answer.ensures.outcome, c.sync-answer.ensures.after)
    (sync-stable disk (sync_fails disk))

pub returns-clause-images : goal.returns-clause-images
returns-clause-images c =
    let disk = c.args.self.now.disk in
    λ honest. rw c.sync-answer.ensures.after (sync-images disk (sync_fails disk))

pub returns-clause-succeeds : goal.returns-clause-succeeds
returns-clause-succeeds c = λ steady. rw (c.count.ensures.same, c.sync-answer.ensures.outcome, sync-ok c.args.self.now.disk steady) refl

pub returns-clause-cause : goal.returns-clause-cause
returns-clause-cause c = c.count.ensures.cause
