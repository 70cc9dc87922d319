use Rattle.std.proofs.Common.{refl}
use Rattle.stream_memory.proofs.MemFiles.{torn_nowhere}
use Rattle.stream_memory.proofs.mem_file.MemFileRawFile.write_at.Goals as goal

pub returns-clause-images : goal.returns-clause-images
returns-clause-images c = λ honest told within. c.write_part-answer.ensures.images

pub returns-clause-succeeds : goal.returns-clause-succeeds
returns-clause-succeeds c = λ steady told begins ends.
    rw c.count.ensures.same (c.write_part-answer.ensures.succeeds steady begins ends)

pub returns-clause-written : goal.returns-clause-written
returns-clause-written c =
    let it = c.write_part-answer.ensures in
    rw c.count.ensures.same (record {
      size = it.size;
      some = it.some;
      bytes = λ told within. it.bytes;
      torn = λ told within. torn_nowhere _ _ _ _ _ it.same;
    })

pub returns-clause-syncs : goal.returns-clause-syncs
returns-clause-syncs c = record { grown = λ told within. c.may_grow-self.ensures within; failed = λ told. refl }

pub returns-clause-cause : goal.returns-clause-cause
returns-clause-cause c = c.count.ensures.cause

pub returns-clause-stays : goal.returns-clause-stays
returns-clause-stays c =
    let it = c.write_part-answer.ensures in
    record { told = refl; honest = refl; steady = it.steady; room = it.room }
