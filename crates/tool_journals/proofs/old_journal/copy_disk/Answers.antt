use Rattle.std.proofs.Common.{inr}
use Rattle.slot_file.specs.Slots.{faults_of, file_of}
use Rattle.tool_base.specs.Endings.{ending}
use Rattle.tool_base.specs.World.{from_to}
use Rattle.tool_base.proofs.Runs.{unchanged_none}
use Rattle.tool_base.specs.Disks.{OneFails}
use Rattle.tool_journals.specs.Migrate.{CopyEnds, old_header, slot_count}
use Rattle.tool_journals.proofs.Copying.{copy_later, later_none, load_fails, load_is}
use Rattle.tool_base.proofs.Outs.{ends_unchanged, ends_map}
use Rattle.tool_journals.proofs.old_journal.copy_disk.Goals as goal

pub returns-in-Ok-clause-ended : goal.returns-in-Ok-clause-ended
returns-in-Ok-clause-ended g c =
    let state = g.S.Store.state in
    let old = state c.args.store.now in
    let last = state c.copy_journal-end.new.store in
    let run = from_to old last in
    let name = c.args.new.now in
    let share = c.args.share.now in
    let opened = c.in-Ok.ensures.opened in
    let file = file_of c.in-Ok.slots in
    let reads = g.D.Pages.reads c.args.disk in
    let one = OneFails old last (faults_of c.in-Ok.slots) (faults_of c.copy_journal-end.new.slots) in
    let two = OneFails old last (g.D.Faults.count c.args.disk) (g.D.Faults.count c.end.result) in
    ends_map run (CopyEnds one run share name file) (CopyEnds two run share name reads) (ending c.copy_journal-end.result) c.copy_journal-end.ensures.ended
    (λ touched is. copy_later run run name (later_none run name) share file reads (λ told. opened.unwritten.same (c.requires.told told)) one two
    (λ failed. rw (c.end.ensures, ← opened.faults) failed) (ending c.copy_journal-end.result) touched is)

pub returns-in-Err-clause-ended : goal.returns-in-Err-clause-ended
returns-in-Err-clause-ended g c =
    let old = g.S.Store.state c.args.store.now in
    let run = from_to old old in
    let name = c.args.new.now in
    let share = c.args.share.now in
    let step = c.in-Err.ensures in
    let file = g.D.Pages.reads c.args.disk in
    let failed = OneFails old old (g.D.Faults.count c.args.disk) (g.D.Faults.count c.in-Err.disk) in
    ends_unchanged old old (unchanged_none old) (CopyEnds failed run share name file) (ending c.end_of_load.result)
    (load_fails failed run share name file c.in-Err.fault (ending c.end_of_load.result) c.end_of_load.ensures
    (λ is. record { rose = inr (step.cause.failed is); unsteady = λ told steady. step.succeeds (c.requires.steady steady) (c.requires.told told) is })
    (λ told. load_is c.header_of.result (old_header share) c.leaves.result (slot_count share) file c.in-Err.fault c.header_of.ensures c.leaves.ensures (step.refuses (c.requires.told told))))
