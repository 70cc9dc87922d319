use Rattle.std.proofs.Common.{refl, ◌≡◌, IsTrue, [], ◌∷◌, arith, ap, subst, length, Err}
use Rattle.slot_file.specs.Fresh as file
use Rattle.stream_io.specs.Store.{Handed, pages_state}
use Rattle.tool_base.specs.Endings.{ending}
use Rattle.tool_base.specs.Outputs.{IsNew}
use Rattle.tool_base.specs.World.{from_to, IsUnchanged}
use Rattle.tool_base.proofs.Runs.{unchanged_on, onward_none, part_of}
use Rattle.tool_base.proofs.Writing.{not_new_of, not_new_part}
use Rattle.tool_journals.specs.Blanks.{IsNeverHalf, IsNotMade, not_new}
use Rattle.tool_base.specs.Disks.{IsOut}
use Rattle.tool_journals.proofs.Blanks.{new_unchanged, not_made_of, owners_on}
use Rattle.tool_base.proofs.Outs.{IsBackAs, made_out, back_as, ends_unchanged, out_unchanged, out_same}
use Rattle.tool_journals.proofs.blank.new_blank.Goals as goal

pub returns-in-Err-clause-refused : goal.returns-in-Err-clause-refused
returns-in-Err-clause-refused g c = λ first unchanged.
    let state = g.S.Store.state in
    let old = c.args.store.now in
    let new = c.new_disk.new.self in
    let step = c.in-Err.ensures in
    let still : IsUnchanged (state old) (state new) = record { same = step.refused; onward = step.onward } in
    let run = from_to (state first) (state new) in
    let not = not_new_of (from_to (state old) (state new)) c.args.name.now c.in-Err.fault _ c.end_of_new.ensures
    (λ is told. step.exists told (ap Err is))
    (λ is. record { rose = step.cause.rose (ap Err is); unsteady = λ steady. step.answers steady (ap Err is) }) in
    ends_unchanged (state first) (state new) (unchanged_on _ _ _ unchanged still) (IsNotMade run c.args.name.now c.args.blank.now.header c.args.blank.now.count) (ending c.end_of_new.result)
    (not_new _ (not_new_part _ _ _ _ (part_of _ _ _ _ unchanged (onward_none _)) _ _ not))

pub returns-in-Err-prepare-clause-refused : goal.returns-in-Err-prepare-clause-refused
returns-in-Err-prepare-clause-refused g c = λ first unchanged.
    let state = g.S.Store.state in
    let disks = g.S.Disk in
    let dk = λ (d : g.row.S-Disk.Denot). pages_state disks.Pages.told disks.Pages.honest disks.Faults.steady disks.Faults.count disks.Pages.room disks.Pages.reads disks.Pages.may_leave d in
    let name = c.args.name.now in
    let made = c.in-Ok.ensures.made in
    let step = c.in-Err-prepare.ensures in
    let run = from_to (state first) (state c.return_disk.new.self) in
    let before = dk c.in-Ok.made in
    let now = dk c.prepare.new.disk in
    let old = state c.args.store.now in
    let mid = state c.new_disk.new.self in
    let last = state c.return_disk.new.self in
    let fresh : IsOut (state first) name before mid =
    out_unchanged (state first) old mid name before unchanged (made_out old mid name c.file_length.result before made c.in-Ok.ensures.onward) in
    let out : IsOut (state first) name now mid =
    out_same (state first) mid name before now fresh step.stays.told step.stays.honest step.stays.steady in
    let back : IsBackAs (state first) name now last =
    back_as (state first) mid last name now out c.return_disk.ensures.returned c.return_disk.ensures.onward in
    let new : IsNew run name = new_unchanged (state first) old mid name unchanged made.absent last in
    let half : IsNeverHalf (file.IsNew c.args.blank.now.header c.args.blank.now.count) run name =
    record {
      stays = λ told. rw (back.file told) refl;
      owners = owners_on (state first) old mid last name unchanged.onward c.in-Ok.ensures.onward c.return_disk.ensures.onward made.readers;
      images = λ told honest image left. (step.half made.reads).images (fresh.told told)
          (subst (λ (h : Handed). IsTrue h.honest) (fresh.kind told) honest) image ((back.leaves told image).0 left);
    } in
    record {
      touched = name ∷ [];
      cause = not_made_of run name _ _ c.in-Err-prepare.fault _ c.end_of_prepare.ensures new
          (λ is. record {
            rose = let none = made.given.fresh in let count = back.disk_count in let rose = step.cause.failed (ap Err is) in omega arith;
            unsteady = λ told steady. step.succeeds (fresh.steady steady) (fresh.told told) (rw (← c.file_length.ensures) (made.room (rw unchanged.onward.told told))) (ap Err is);
          })
          (λ held is told. let holds = step.full.refused (fresh.told told) held (ap Err is) in let empty : length (disks.Pages.reads c.in-Ok.made) ≡ 0 = ap length (made.reads (fresh.told told)) in omega arith)
          half;
      keeps = back.keeps;
    }
