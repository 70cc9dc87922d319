use Rattle.std.proofs.Common.{Err, ap}
use Rattle.std.proofs.lemmas.Result.{err_from_is_err_and}
use Rattle.tool_base.specs.Contents.{failed, no_memory}
use Rattle.tool_base.specs.World.{Failed, IsUnchanged, TooLong, file_limit}
use Rattle.tool_base.proofs.Runs.{onward_on, part_of, read_part, unchanged_on}
use Rattle.tool_base.proofs.contents.find_content.Goals as goal

pub returns-in-Err-Failed-clause-refused : goal.returns-in-Err-Failed-clause-refused
returns-in-Err-Failed-clause-refused g c =
    let read = c.in-Err-Failed.ensures in
    let is = c.in-Err-Failed.field-0-is in
    λ first last part. failed (read_part _ _ _ _ part file_limit c.args.name.now Failed (read.cause.rose (ap Err is), λ told steady. read.absent told steady (ap Err is)))

pub returns-in-Err-NoMemory-clause-refused : goal.returns-in-Err-NoMemory-clause-refused
returns-in-Err-NoMemory-clause-refused g c = λ first last part. no_memory

pub returns-in_err-head-in-Err-TooLong-clause-refused : goal.returns-in_err-head-in-Err-TooLong-clause-refused
returns-in_err-head-in-Err-TooLong-clause-refused g c =
    let state = g.S.Store.state in
    let read = c.in-Err-TooLong.ensures in
    let still : IsUnchanged (state c.args.store.now) (state c.read_all.new.self) = record { same = read.same; onward = read.onward } in
    let p = err_from_is_err_and c.from_residual.result c.from_residual.ensures.1 in
    λ first last part. rw (p.1, p.2)
    (c.in_err-head-in-Err-TooLong.ensures.refused first last (part_of _ _ _ _ (unchanged_on (state first) _ _ part.earlier still) part.later))

pub returns-in_ok-head-in-Err-TooLong-clause-found : goal.returns-in_ok-head-in-Err-TooLong-clause-found
returns-in_ok-head-in-Err-TooLong-clause-found g c =
    let state = g.S.Store.state in
    let read = c.in-Err-TooLong.ensures in
    let got = c.in-Err-TooLong.got-is in
    let is = c.in-Err-TooLong.field-0-is in
    let still : IsUnchanged (state c.args.store.now) (state c.read_all.new.self) = record { same = read.same; onward = read.onward } in
    let later = c.in_ok-head-in-Err-TooLong.ensures.keeps.back.onward in
    λ first last part. (
      read_part (state first) (state c.args.store.now) (state c.read_all.new.self) (state last)
          (part_of _ _ _ _ part.earlier (onward_on _ _ _ later part.later)) file_limit c.args.name.now (TooLong c.in-Err-TooLong.got) (read.above c.in-Err-TooLong.got (cc)),
      c.in_ok-head-in-Err-TooLong.ensures.head first last (part_of _ _ _ _ (unchanged_on (state first) _ _ part.earlier still) part.later),
    )
