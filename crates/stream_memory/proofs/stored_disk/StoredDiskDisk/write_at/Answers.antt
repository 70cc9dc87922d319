use Rattle.std.proofs.Common.{length, refl}
use Rattle.disk_trait.specs.MemDisk.{write_fails}
use Rattle.stream_memory.proofs.MemFiles.{write-bytes, write-fits, write-succeeds, write-torn, write-within}
use Rattle.stream_memory.proofs.Stable.{write-room, write-steady}
use Rattle.stream_memory.proofs.stored_disk.StoredDiskDisk.write_at.Goals as goal

pub returns-clause-bytes : goal.returns-clause-bytes
returns-clause-bytes c =
    let disk = c.args.self.now.disk in
    let bytes = c.args.bytes.now in
    λ told. rw (c.count.ensures.same, c.write_at-answer.ensures.outcome, c.write_at-answer.ensures.after)
    (write-bytes disk c.args.at bytes (write_fails disk c.args.at (length bytes)))

pub returns-clause-torn : goal.returns-clause-torn
returns-clause-torn c =
    let disk = c.args.self.now.disk in
    let bytes = c.args.bytes.now in
    λ told. rw (c.count.ensures.same, c.write_at-answer.ensures.outcome, c.write_at-answer.ensures.after)
    (write-torn disk c.args.at bytes (write_fails disk c.args.at (length bytes)))

pub returns-clause-images : goal.returns-clause-images
returns-clause-images c = λ honest. c.write_at-answer.ensures.images

pub returns-clause-within : goal.returns-clause-within
returns-clause-within c =
    let disk = c.args.self.now.disk in
    let bytes = c.args.bytes.now in
    λ told. rw (c.count.ensures.same, c.write_at-answer.ensures.outcome)
    (write-within disk c.args.at bytes (write_fails disk c.args.at (length bytes)) refl)

pub returns-clause-fits : goal.returns-clause-fits
returns-clause-fits c =
    let disk = c.args.self.now.disk in
    let bytes = c.args.bytes.now in
    λ told. rw (c.count.ensures.same, c.write_at-answer.ensures.outcome)
    (write-fits disk c.args.at bytes (write_fails disk c.args.at (length bytes)) refl)

pub returns-clause-cause : goal.returns-clause-cause
returns-clause-cause c = c.count.ensures.cause

pub returns-clause-stays : goal.returns-clause-stays
returns-clause-stays c =
    let disk = c.args.self.now.disk in
    let bytes = c.args.bytes.now in
    let fails = write_fails disk c.args.at (length bytes) in
    record {
      told = refl;
      honest = refl;
      steady = rw c.write_at-answer.ensures.after (write-steady disk c.args.at bytes fails);
      room = rw c.write_at-answer.ensures.after (write-room disk c.args.at bytes fails);
    }

pub returns-clause-succeeds : goal.returns-clause-succeeds
returns-clause-succeeds c = λ steady told within fits.
    rw (c.count.ensures.same, c.write_at-answer.ensures.outcome) (write-succeeds c.args.self.now.disk c.args.at c.args.bytes.now steady within fits)
