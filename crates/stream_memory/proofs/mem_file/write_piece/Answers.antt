use Rattle.std.proofs.Common.{length, refl}
use Rattle.disk_trait.specs.MemDisk.{write_fails}
use Rattle.stream_memory.proofs.MemFiles.{write-bytes, write-room_of, write-same, write-succeeds}
use Rattle.stream_memory.proofs.Stable.{write-steady}
use Rattle.stream_memory.proofs.mem_file.write_piece.Goals as goal

pub returns-clause-bytes : goal.returns-clause-bytes
returns-clause-bytes c =
    let disk = c.args.disk.now in
    let piece = c.args.piece.now in
    rw (c.write_at.ensures.outcome, c.write_at.ensures.after)
    (write-bytes disk c.args.at piece (write_fails disk c.args.at (length piece)))

pub returns-clause-same : goal.returns-clause-same
returns-clause-same c =
    let disk = c.args.disk.now in
    let piece = c.args.piece.now in
    rw (c.write_at.ensures.outcome, c.write_at.ensures.after)
    (write-same disk c.args.at piece (write_fails disk c.args.at (length piece)))

pub returns-clause-steady : goal.returns-clause-steady
returns-clause-steady c =
    let disk = c.args.disk.now in
    let piece = c.args.piece.now in
    rw c.write_at.ensures.after (write-steady disk c.args.at piece (write_fails disk c.args.at (length piece)))

pub returns-clause-room : goal.returns-clause-room
returns-clause-room c =
    let disk = c.args.disk.now in
    let piece = c.args.piece.now in
    rw c.write_at.ensures.after (write-room_of disk c.args.at piece (write_fails disk c.args.at (length piece)) refl)

pub returns-clause-images : goal.returns-clause-images
returns-clause-images c = c.write_at.ensures.images

pub returns-clause-succeeds : goal.returns-clause-succeeds
returns-clause-succeeds c = λ steady within fits.
    rw c.write_at.ensures.outcome (write-succeeds c.args.disk.now c.args.at c.args.piece.now steady within fits)
