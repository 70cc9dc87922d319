use Rattle.std.proofs.Common.{Err, ap}
use Rattle.tool_base.specs.Reads.{failed, too_long, no_memory}
use Rattle.tool_base.specs.World.{Bytes}
use Rattle.tool_base.proofs.Runs.{fails_part, read_part}
use Rattle.tool_base.proofs.reading.read_file.Goals as goal

pub returns-in-Err-Failed-clause-refused : goal.returns-in-Err-Failed-clause-refused
returns-in-Err-Failed-clause-refused g c =
    let read = c.in-Err-Failed.ensures in
    let is = c.in-Err-Failed.field-0-is in
    λ first last part. fails_part _ _ _ _ part _ _ _ (failed (read.cause.rose (ap Err is), λ told steady. read.absent told steady (ap Err is)))

pub returns-in-Err-TooLong-clause-refused : goal.returns-in-Err-TooLong-clause-refused
returns-in-Err-TooLong-clause-refused g c =
    let read = c.in-Err-TooLong.ensures in
    let is = c.in-Err-TooLong.field-0-is in
    let got = c.in-Err-TooLong.got-is in
    λ first last part. fails_part _ _ _ _ part _ _ _ (too_long c.in-Err-TooLong.got (read.above c.in-Err-TooLong.got (cc)))

pub returns-in-Err-NoMemory-clause-refused : goal.returns-in-Err-NoMemory-clause-refused
returns-in-Err-NoMemory-clause-refused g c = λ first last part. no_memory

pub returns-in-Ok-clause-bytes : goal.returns-in-Ok-clause-bytes
returns-in-Ok-clause-bytes g c = λ first last part. read_part _ _ _ _ part _ _ (Bytes c.in-Ok.bytes.items) (c.in-Ok.ensures.within, c.in-Ok.ensures.bytes)

pub returns-in-Err-Failed-clause-unchanged : goal.returns-in-Err-Failed-clause-unchanged
returns-in-Err-Failed-clause-unchanged g c = record { same = c.in-Err-Failed.ensures.same; onward = c.in-Err-Failed.ensures.onward }

pub returns-in-Err-TooLong-clause-unchanged : goal.returns-in-Err-TooLong-clause-unchanged
returns-in-Err-TooLong-clause-unchanged g c = record { same = c.in-Err-TooLong.ensures.same; onward = c.in-Err-TooLong.ensures.onward }

pub returns-in-Err-NoMemory-clause-unchanged : goal.returns-in-Err-NoMemory-clause-unchanged
returns-in-Err-NoMemory-clause-unchanged g c = record { same = c.in-Err-NoMemory.ensures.same; onward = c.in-Err-NoMemory.ensures.onward }

pub returns-in-Ok-clause-unchanged : goal.returns-in-Ok-clause-unchanged
returns-in-Ok-clause-unchanged g c = record { same = c.in-Ok.ensures.same; onward = c.in-Ok.ensures.onward }
