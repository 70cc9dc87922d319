use Rattle.std.proofs.Common.{IsTrue, Err, ap, sym, subst, ◌∙◌, arith}
use Rattle.stream_io.specs.Store.{has_name, pages_state}
use Rattle.tool_base.specs.Endings.{ending}
use Rattle.tool_base.specs.Outputs.{IsNew}
use Rattle.tool_base.specs.Touched.{EndsTouching}
use Rattle.tool_base.specs.World.{IsUnchanged, from_to}
use Rattle.tool_base.proofs.Runs.{unchanged_on, onward_none, onward_on, part_of}
use Rattle.tool_base.proofs.Writing.{failed_part}
use Rattle.tool_journals.specs.Approve.{IsBookDisk, IsNotOpened, is_new, look_failed, no_memory_to_look, not_made, not_taken, was_there}
use Rattle.tool_journals.specs.Blanks.{IsBlankDisk, IsNotMade}
use Rattle.tool_journals.specs.Taking.{no_memory_to_take, take_failed}
use Rattle.tool_journals.proofs.Blanks.{new_unchanged}
use Rattle.tool_base.proofs.Outs.{ends_unchanged, ends_map, taken_out}
use Rattle.tool_base.proofs.Takes.{taken_unchanged}
use Rattle.tool_journals.proofs.Approving.{blank_unchanged, if_err_map, if_ok_map}
use Rattle.tool_journals.proofs.book.open_book.Goals as goal

pub returns-in-Err-Failed-take_disk-clause-refused :
    goal.returns-in-Err-Failed-take_disk-clause-refused
returns-in-Err-Failed-take_disk-clause-refused g c = λ first unchanged.
    let state = g.S.Store.state in
    let mid = state c.has.new.self in
    let last = state c.take_disk.new.self in
    let run = from_to (state first) last in
    let book = c.args.book.now in
    let one = c.in-Ok-true.ensures in
    let two = c.in-Err-Failed-take_disk.ensures in
    let is = ap Err c.in-Err-Failed-take_disk.field-0-is in
    let before : IsUnchanged (state first) mid = unchanged_on _ _ _ unchanged (record { same = one.same; onward = one.onward }) in
    let still : IsUnchanged mid last = record { same = two.refused; onward = two.onward } in
    let there : IsTrue (state first).told → IsTrue (has_name (state first) book) = λ told.
    rw (← unchanged.same.names.file, ← unchanged.same.names.out) (sym (one.found (rw unchanged.onward.told told)) ∙ c.in-Ok-true.field-0-test) in
    ends_unchanged (state first) last (unchanged_on _ _ _ before still) (IsNotOpened run book c.args.blank.now.header) _
    (not_taken _ there (take_failed (let rose = two.cause.rose is in let begins = before.onward.count in omega arith)
    (λ told steady. rw (← before.same.names.file) (two.absent (rw before.onward.told told) (rw before.onward.steady steady) is))))

pub returns-in-Err-NoMemory-take_disk-clause-refused :
    goal.returns-in-Err-NoMemory-take_disk-clause-refused
returns-in-Err-NoMemory-take_disk-clause-refused g c = λ first unchanged.
    let state = g.S.Store.state in
    let mid = state c.has.new.self in
    let last = state c.take_disk.new.self in
    let run = from_to (state first) last in
    let book = c.args.book.now in
    let one = c.in-Ok-true.ensures in
    let two = c.in-Err-NoMemory-take_disk.ensures in
    let before : IsUnchanged (state first) mid = unchanged_on _ _ _ unchanged (record { same = one.same; onward = one.onward }) in
    let still : IsUnchanged mid last = record { same = two.refused; onward = two.onward } in
    let there : IsTrue (state first).told → IsTrue (has_name (state first) book) = λ told.
    rw (← unchanged.same.names.file, ← unchanged.same.names.out) (sym (one.found (rw unchanged.onward.told told)) ∙ c.in-Ok-true.field-0-test) in
    ends_unchanged (state first) last (unchanged_on _ _ _ before still) (IsNotOpened run book c.args.blank.now.header) _
    (not_taken _ there no_memory_to_take)

pub returns-in-Ok-clause-opened : goal.returns-in-Ok-clause-opened
returns-in-Ok-clause-opened g c =
    let state = g.S.Store.state in
    let disks = g.S.Disk in
    let dk = λ (d : g.row.S-Disk.Denot). pages_state disks.Pages.told disks.Pages.honest disks.Faults.steady disks.Faults.count disks.Pages.room disks.Pages.reads disks.Pages.may_leave d in
    let old = state c.args.store.now in
    let mid = state c.has.new.self in
    let last = state c.take_disk.new.self in
    let book = c.args.book.now in
    let disk = dk c.in-Ok.disk in
    let one = c.in-Ok-true.ensures in
    let two = c.in-Ok.ensures in
    let still : IsUnchanged old mid = record { same = one.same; onward = one.onward } in
    let taken = taken_unchanged old mid last book disk still two.taken in
    was_there (taken_out old last book disk taken (onward_on old mid last still.onward two.onward)) taken.reads taken.images

pub returns-in-Ok-false-clause-opened : goal.returns-in-Ok-false-clause-opened
returns-in-Ok-false-clause-opened g c =
    let state = g.S.Store.state in
    let disks = g.S.Disk in
    let dk = λ (d : g.row.S-Disk.Denot). pages_state disks.Pages.told disks.Pages.honest disks.Faults.steady disks.Faults.count disks.Pages.room disks.Pages.reads disks.Pages.may_leave d in
    let old = state c.args.store.now in
    let mid = state c.has.new.self in
    let last = state c.new_blank.new.store in
    let book = c.args.book.now in
    let header = c.args.blank.now.header in
    let count = c.args.blank.now.count in
    let one = c.in-Ok-false.ensures in
    let still : IsUnchanged old mid = record { same = one.same; onward = one.onward } in
    if_ok_map c.new_blank.result (λ disk. IsBlankDisk mid book header count (dk disk) last) (λ disk. IsBookDisk old book header (dk disk) last)
    (λ disk blank. is_new (blank_unchanged old mid last book header 1024 (dk disk) still (subst (λ n. IsBlankDisk mid book header n (dk disk) last) c.requires blank)))
    c.new_blank.ensures.made

pub returns-in-Ok-false-clause-refused : goal.returns-in-Ok-false-clause-refused
returns-in-Ok-false-clause-refused g c = λ first unchanged.
    let state = g.S.Store.state in
    let old = state c.args.store.now in
    let mid = state c.has.new.self in
    let last = state c.new_blank.new.store in
    let run = from_to (state first) last in
    let book = c.args.book.now in
    let header = c.args.blank.now.header in
    let count = c.args.blank.now.count in
    let one = c.in-Ok-false.ensures in
    let still : IsUnchanged old mid = record { same = one.same; onward = one.onward } in
    let new : IsNew run book = new_unchanged (state first) old last book unchanged (λ told. sym (one.found told) ∙ c.in-Ok-false.field-0-test) last in
    if_err_map c.new_blank.result (λ end. EndsTouching (IsNotMade run book header count) run (ending end)) (λ end. EndsTouching (IsNotOpened run book header) run (ending end))
    (λ end ends. ends_map run (IsNotMade run book header count) (IsNotOpened run book header) (ending end) ends
    (λ touched is. not_made (ending end) touched new (subst (λ n. IsNotMade run book header n (ending end) touched) c.requires is)))
    (c.new_blank.ensures.refused first (unchanged_on (state first) old mid unchanged still))

pub returns-in-Err-Failed-clause-refused : goal.returns-in-Err-Failed-clause-refused
returns-in-Err-Failed-clause-refused g c = λ first unchanged.
    let state = g.S.Store.state in
    let old = state c.args.store.now in
    let last = state c.has.new.self in
    let one = c.in-Err-Failed.ensures in
    let is = ap Err c.in-Err-Failed.field-0-is in
    let still : IsUnchanged old last = record { same = one.same; onward = one.onward } in
    ends_unchanged (state first) last (unchanged_on _ _ _ unchanged still) (IsNotOpened (from_to (state first) last) c.args.book.now c.args.blank.now.header) _
    (look_failed (failed_part (state first) old last last (part_of _ _ _ _ unchanged (onward_none last)) (record { rose = one.cause.rose is; unsteady = λ steady. one.answers steady is })))

pub returns-in-Err-NoMemory-clause-refused : goal.returns-in-Err-NoMemory-clause-refused
returns-in-Err-NoMemory-clause-refused g c = λ first unchanged.
    let state = g.S.Store.state in
    let old = state c.args.store.now in
    let last = state c.has.new.self in
    let one = c.in-Err-NoMemory.ensures in
    let still : IsUnchanged old last = record { same = one.same; onward = one.onward } in
    ends_unchanged (state first) last (unchanged_on _ _ _ unchanged still) (IsNotOpened (from_to (state first) last) c.args.book.now c.args.blank.now.header) _
    no_memory_to_look
