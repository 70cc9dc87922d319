use Rattle.std.proofs.Common.{◌≡◌, ◌∷◌, IsTrue, Some, Err, refl, sym, ap, ◌∙◌, subst, inl, inr, arith}
use Rattle.stream_io.specs.Store.{Handed, StoreOnward, pages_state}
use Rattle.tool_base.specs.Endings.{ending}
use Rattle.tool_base.specs.Outputs.{IsNew, IsNotNew}
use Rattle.tool_base.specs.World.{IsUnchanged, from_to}
use Rattle.tool_base.proofs.Runs.{unchanged_none, unchanged_on, onward_none, onward_on, part_of}
use Rattle.tool_base.specs.Disks.{DeviceFails}
use Rattle.tool_base.specs.Disks.{IsOut, OneFails}
use Rattle.tool_journals.specs.Migrate.{MigrateEnds, StandsStill, no_share, not_new, taken}
use Rattle.tool_journals.specs.Taking.{no_memory_to_take, take_failed}
use Rattle.tool_journals.proofs.Copying.{Later, copy_later}
use Rattle.tool_base.proofs.Outs.{Round, new_beside, new_differs, out_unchanged, out_same, round, taken_out}
use Rattle.tool_journals.proofs.Migrating.{untaken}
use Rattle.tool_journals.proofs.Sharing.{next_fails, unshared}
use Rattle.tool_journals.proofs.commands.migrate_journal.Goals as goal

pub returns-in-Err : goal.returns-in-Err
returns-in-Err g c =
    record { ended = unshared g.S.Store.state c.args.store.now c.read_share_file.new.store c.args.share.now c.in-Err.ensures.unchanged _ _ (λ end fails. no_share end fails) c.in-Err.ensures.refused }

pub returns-in-Err-test_new : goal.returns-in-Err-test_new
returns-in-Err-test_new g c =
    let before = next_fails g.S.Store.state c.args.store.now c.read_share_file.new.store c.args.share.now c.in-Ok.ensures.unchanged c.test_new.new.store c.in-Ok.found in
    record { ended = before (λ run. IsNotNew run c.args.new.now (ending c.in-Err-test_new.end)) _ _ (λ share fails. not_new c.in-Ok.found _ share fails) c.in-Ok.ensures.share c.in-Err-test_new.ensures.unchanged c.in-Err-test_new.ensures.refused }

pub returns-in-Err-Failed : goal.returns-in-Err-Failed
returns-in-Err-Failed g c =
    let state = g.S.Store.state in
    let one = c.in-Ok.ensures in
    let two = c.in_default.ensures in
    let three = c.in-Err-Failed.ensures in
    let unchanged : IsUnchanged (state c.args.store.now) (state c.test_new.new.store) = unchanged_on _ _ _ one.unchanged two.unchanged in
    let is = ap Err c.in-Err-Failed.field-0-is in
    record {
      ended = untaken state c.args.store.now c.read_share_file.new.store c.test_new.new.store c.take_disk.new.self c.args.share.now c.args.journal.now c.args.new.now c.in-Ok.found
          one.unchanged two.unchanged three.refused three.onward one.share two.new _ (take_failed
          (let rose = three.cause.rose is in let before = unchanged.onward.count in omega arith)
          (λ told steady. rw (← unchanged.same.names.file) (three.absent (rw unchanged.onward.told told) (rw unchanged.onward.steady steady) is)));
    }

pub returns-in-Err-NoMemory : goal.returns-in-Err-NoMemory
returns-in-Err-NoMemory g c =
    let one = c.in-Ok.ensures in
    let two = c.in_default.ensures in
    let three = c.in-Err-NoMemory.ensures in
    record {
      ended = untaken g.S.Store.state c.args.store.now c.read_share_file.new.store c.test_new.new.store c.take_disk.new.self c.args.share.now c.args.journal.now c.args.new.now c.in-Ok.found
          one.unchanged two.unchanged three.refused three.onward one.share two.new _ no_memory_to_take;
    }

pub copy_disk-disk-requires-clause-new : goal.copy_disk-disk-requires-clause-new
copy_disk-disk-requires-clause-new g c κs within =
    let state = g.S.Store.state in
    let disks = g.S.Disk in
    let between = state c.test_new.new.store in
    let disk = pages_state disks.Pages.told disks.Pages.honest disks.Faults.steady disks.Faults.count disks.Pages.room disks.Pages.reads disks.Pages.may_leave c.in-Ok-take_disk.disk in
    let one = c.in-Ok.ensures in
    let two = c.in_default.ensures in
    let three = c.in-Ok-take_disk.ensures in
    let new = two.new c.read_share_file.new.store c.test_new.new.store (part_of _ _ _ _ (unchanged_none _) (onward_none _)) in
    new_beside between (state c.take_disk.new.self) c.args.journal.now c.args.new.now disk (taken_out between (state c.take_disk.new.self) c.args.journal.now disk three.taken three.onward)
    three.taken.reads (λ told. rw (two.unchanged.same.names.file, two.unchanged.same.names.out) (new (rw (← two.unchanged.onward.told) told)))

pub returns-in-Ok-take_disk : goal.returns-in-Ok-take_disk
returns-in-Ok-take_disk g c =
    let state = g.S.Store.state in
    let disks = g.S.Disk in
    let dk = λ (d : g.row.S-Disk.Denot). pages_state disks.Pages.told disks.Pages.honest disks.Faults.steady disks.Faults.count disks.Pages.room disks.Pages.reads disks.Pages.may_leave d in
    let first = state c.args.store.now in
    let between = state c.test_new.new.store in
    let before = state c.take_disk.new.self in
    let after = state c.copy_disk-disk.new.store in
    let last = state c.return_disk.new.self in
    let run = from_to first last in
    let journal = c.args.journal.now in
    let name = c.args.new.now in
    let share = c.in-Ok.found in
    let old = dk c.in-Ok-take_disk.disk in
    let now = dk c.copy_disk-disk.result.0 in
    let one = c.in-Ok.ensures in
    let two = c.in_default.ensures in
    let three = c.in-Ok-take_disk.ensures in
    let four = c.copy_disk-disk.ensures in
    let five = c.return_disk.ensures in
    let unchanged : IsUnchanged first between = unchanged_on _ _ _ one.unchanged two.unchanged in
    let went : IsOut first journal old before = out_unchanged first between before journal old unchanged (taken_out between before journal old three.taken three.onward) in
    let out : IsOut first journal now before = out_same first before journal old now went four.unwritten.stays.told four.unwritten.stays.honest four.unwritten.stays.steady in
    let back : Round first after last journal four.ended.touched now = round first before after last journal four.ended.touched now out four.ended.keeps five.returned five.onward in
    let later : StoreOnward before last = onward_on before after last four.ended.keeps.back.onward five.onward in
    let read = one.share c.args.store.now c.return_disk.new.self (part_of _ _ _ _ (unchanged_none _) (onward_on _ _ _ two.unchanged.onward (onward_on _ _ _ three.onward later))) in
    let new : IsNew run name = two.new c.args.store.now c.return_disk.new.self (part_of _ _ _ _ one.unchanged (onward_on _ _ _ three.onward later)) in
    let there : IsTrue first.told → first.file journal ≡ Some old.reads = λ told. rw (← unchanged.same.names.file) (three.taken.reads (rw unchanged.onward.told told)) in
    let differs = new_differs first before journal name old went there new in
    let still : StandsStill run journal old.reads = record {
      before = there;
      after = λ told. back.file told ∙ ap Some (four.unwritten.same (went.told told));
      images = λ told honest image left. (unchanged.same.names.leaves journal image).0 ((three.taken.images (rw unchanged.onward.told told) image).0
          (four.unwritten.images (subst (λ (h : Handed). IsTrue h.honest) (went.kind told) honest) image ((back.leaves told image).0 left)));
    } in
    let part : Later (from_to before after) run name = record {
      told = λ told. rw went.onward.told told;
      call = λ failed. record {
        rose = let rose = failed.rose in let begins = went.onward.count in let ends = five.onward.count in omega arith;
        unsteady = λ steady. failed.unsteady (rw went.onward.steady steady);
      };
      kind = sym (went.onward.disks name);
      readers = λ told. five.onward.readers (rw four.ended.keeps.back.onward.told (rw went.onward.told told)) name;
      file = λ told. back.others_file told name (differs told);
      leaves = λ told image. (back.others_leave told name image (differs told)).0;
    } in
    let fails : OneFails before after old.count now.count → DeviceFails run = λ failed. record {
      rose = elim failed.rose [
        | inl rose ↦ (let begins = went.onward.disk_count in let ends = five.onward.disk_count in omega arith)
        | inr rose ↦ (let begins = went.onward.disk_count in let kept = four.ended.keeps.back.onward.disk_count in let ends = back.disk_count in omega arith)
      ];
      unsteady = λ told steady. failed.unsteady (rw went.onward.told told) (rw went.onward.steady steady);
    } in
    record {
      ended = record {
        touched = journal ∷ four.ended.touched;
        cause = taken share old.reads (ending c.copy_disk-disk.result.1) four.ended.touched read new still
            (copy_later (from_to before after) run name part share old.reads old.reads (λ told. refl) (OneFails before after old.count now.count) (DeviceFails run) fails
            (ending c.copy_disk-disk.result.1) four.ended.touched four.ended.cause);
        keeps = back.keeps;
      };
    }
