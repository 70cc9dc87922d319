use Rattle.std.proofs.Common.{refl}
use Rattle.stream_memory.proofs.MemFiles.{same_room}
use Rattle.stream_memory.proofs.mem_file.MemFileRawFile.read_at.Goals as goal

pub returns-clause-size : goal.returns-clause-size
returns-clause-size c = rw c.count.ensures.same c.read_part-answer.ensures.size

pub returns-clause-bytes : goal.returns-clause-bytes
returns-clause-bytes c = λ told. rw c.count.ensures.same c.read_part-answer.ensures.bytes

pub returns-clause-within : goal.returns-clause-within
returns-clause-within c = λ told. rw c.count.ensures.same c.read_part-answer.ensures.within

pub returns-clause-end : goal.returns-clause-end
returns-clause-end c = λ told. rw c.count.ensures.same c.read_part-answer.ensures.end

pub returns-clause-untouched : goal.returns-clause-untouched
returns-clause-untouched c =
    let it = c.read_part-answer.ensures in
    record {
      same = λ told. it.same;
      images = λ honest. it.images;
      syncs = λ told. record { grown = refl; failed = refl };
    }

pub returns-clause-stays : goal.returns-clause-stays
returns-clause-stays c =
    let it = c.read_part-answer.ensures in
    record { told = refl; honest = refl; steady = it.limits.steady; room = same_room c.args.self.now.disk c.read_part-answer.new.disk it.limits.room it.same }

pub returns-clause-succeeds : goal.returns-clause-succeeds
returns-clause-succeeds c = λ steady. rw c.count.ensures.same (c.read_part-answer.ensures.succeeds steady)

pub returns-clause-cause : goal.returns-clause-cause
returns-clause-cause c = c.count.ensures.cause
