use Rattle.std.proofs.Common.{◌≡◌, IsTrue, [], ◌∷◌, arith, sym, ap, refl, subst, length, Err, inl, inr}
use Rattle.std.proofs.lemmas.Bool.{false≢true}
use Rattle.slot_file.specs.Copies.{IsCopy}
use Rattle.slot_file.specs.Copying.{FindsDamaged, IsDamaged}
use Rattle.slot_file.specs.Slots.{faults_of, file_of}
use Rattle.slot_file.specs.declared.header.Header.{Header}
use Rattle.stream_io.specs.Store.{Handed, pages_state}
use Rattle.tool_base.specs.Endings.{ending}
use Rattle.tool_base.specs.World.{from_to, IsUnchanged}
use Rattle.tool_journals.specs.Blanks.{IsNeverHalf}
use Rattle.tool_base.specs.Disks.{OneFails}
use Rattle.tool_journals.specs.Migrate.{CopyEnds, IsCopied, migrated, not_made, slot_count}
use Rattle.tool_journals.proofs.Blanks.{IsMadeAndBack, made_and_back}
use Rattle.tool_journals.proofs.Copying.{copy_fails, copy_is, damaged_is, not_written_of, taken_is}
use Rattle.tool_base.proofs.Outs.{ends_unchanged}
use Rattle.tool_journals.proofs.old_journal.copy_journal.Goals as goal
use Rattle.trustee_core.specs.Trustee.{journal_header}

pub returns-in-Err-clause-ended : goal.returns-in-Err-clause-ended
returns-in-Err-clause-ended g c =
    let state = g.S.Store.state in
    let old = state c.args.store.now in
    let new = state c.new_disk.new.self in
    let step = c.in-Err.ensures in
    let still : IsUnchanged old new = record { same = step.refused; onward = step.onward } in
    let run = from_to old new in
    let faults = faults_of c.args.slots.now in
    let not = not_written_of run c.args.new.now c.in-Err.fault _ c.end_of_new.ensures
    (λ is told. false≢true (rw (c.requires.new told) at (step.exists told (ap Err is))))
    (λ is. record { rose = step.cause.rose (ap Err is); unsteady = λ steady. step.answers steady (ap Err is) }) in
    ends_unchanged old new still (CopyEnds (OneFails old new faults faults) run c.args.share.now c.args.new.now (file_of c.args.slots.now)) (ending c.end_of_new.result)
    (not_made _ c.requires.opens not)

pub returns-in-Ok-copied-clause-ended : goal.returns-in-Ok-copied-clause-ended
returns-in-Ok-copied-clause-ended g c =
    let state = g.S.Store.state in
    let disks = g.S.Disk in
    let dk = λ (d : g.row.S-Disk.Denot). pages_state disks.Pages.told disks.Pages.honest disks.Faults.steady disks.Faults.count disks.Pages.room disks.Pages.reads disks.Pages.may_leave d in
    let name = c.args.new.now in
    let share = c.args.share.now in
    let file = file_of c.args.slots.now in
    let step = c.in-Ok-copied.ensures in
    let old_version : c.args.slots.now.header.version ≡ 1 = ap (λ (h : Header). h.version) c.requires.header in
    let whole : IsMadeAndBack (state c.args.store.now) (state c.new_disk.new.self) (state c.return_disk.new.self) name (dk c.in-Ok.disk) (dk c.copy_slots-copied.new.disk) =
    made_and_back _ _ _ name c.file_length.result _ _ c.in-Ok.ensures.made c.in-Ok.ensures.onward step.calls.disk.told step.calls.disk.honest step.calls.disk.steady
    c.return_disk.ensures.returned c.return_disk.ensures.onward in
    let copied : IsCopied (from_to (state c.args.store.now) (state c.return_disk.new.self)) share name file = record {
      owners = whole.owners;
      copy = λ told. (
        disks.Pages.reads c.copy_slots-copied.new.disk,
        whole.back.file told,
        copy_is _ (journal_header share) c.leaves-count.result (slot_count share) _ file _ c.header_of.ensures c.leaves-count.ensures old_version
            (step.copied.copied (whole.fresh.told told) (c.requires.told told)),
        λ honest image left. step.copied.stable (whole.fresh.told told) (subst (λ (h : Handed). IsTrue h.honest) (whole.fresh.kind told) honest) image ((whole.back.leaves told image).0 left),
      );
    } in
    record {
      touched = name ∷ [];
      cause = migrated c.in-Ok-copied.slots c.requires.opens
          (λ told. taken_is c.leaves-count.result (slot_count share) _ _ file c.leaves-count.ensures old_version (step.copied.are.taken_are (c.requires.told told)))
          copied;
      keeps = whole.back.keeps;
    }

pub returns-in-Err-copied-clause-ended : goal.returns-in-Err-copied-clause-ended
returns-in-Err-copied-clause-ended g c =
    let state = g.S.Store.state in
    let disks = g.S.Disk in
    let dk = λ (d : g.row.S-Disk.Denot). pages_state disks.Pages.told disks.Pages.honest disks.Faults.steady disks.Faults.count disks.Pages.room disks.Pages.reads disks.Pages.may_leave d in
    let name = c.args.new.now in
    let share = c.args.share.now in
    let file = file_of c.args.slots.now in
    let made = c.in-Ok.ensures.made in
    let step = c.in-Err-copied.ensures in
    let old = state c.args.store.now in
    let last = state c.return_disk.new.self in
    let run = from_to old last in
    let old_version : c.args.slots.now.header.version ≡ 1 = ap (λ (h : Header). h.version) c.requires.header in
    let whole : IsMadeAndBack old (state c.new_disk.new.self) last name (dk c.in-Ok.disk) (dk c.copy_slots-copied.new.disk) =
    made_and_back _ _ _ name c.file_length.result _ _ made c.in-Ok.ensures.onward step.calls.disk.told step.calls.disk.honest step.calls.disk.steady
    c.return_disk.ensures.returned c.return_disk.ensures.onward in
    let fresh = whole.fresh in
    let back = whole.back in
    let failed = OneFails old last (faults_of c.args.slots.now) (faults_of c.copy_slots-copied.new.from) in
    let honest_is = λ (told : IsTrue old.told) (honest : IsTrue (old.disks name).honest). subst (λ (h : Handed). IsTrue h.honest) (fresh.kind told) honest in
    let half : IsNeverHalf (IsCopy (journal_header share) (slot_count share) 1 file) run name = record {
      owners = whole.owners;
      stays = λ told. rw (back.file told) refl;
      images = λ told honest image left.
          elim ((step.half made.reads (c.requires.told told)).images (fresh.told told) (honest_is told honest) image ((back.leaves told image).0 left)) [
            | inl shut ↦ inl shut
            | inr is ↦ inr (copy_is _ (journal_header share) c.leaves-count.result (slot_count share) _ file image c.header_of.ensures c.leaves-count.ensures old_version is)
          ];
    } in
    record {
      touched = name ∷ [];
      cause = copy_fails failed run share name file c.in-Err-copied.fault (ending c.end_of_copy.result) c.end_of_copy.ensures c.requires.opens
          (λ held is told. let holds = step.full.refused (fresh.told told) held (ap Err is) in let empty : length (disks.Pages.reads c.in-Ok.disk) ≡ 0 = ap length (made.reads (fresh.told told)) in omega arith)
          (λ slot a b is. (
            λ told. damaged_is c.leaves-count.result (slot_count share) _ file slot a b c.leaves-count.ensures old_version
                (subst (λ f. FindsDamaged c.args.slots.now c.leaves-count.result f) is step.damaged (c.requires.told told)),
            let shut = step.shut (subst (λ f. IsDamaged f) (sym is) tt) in record {
              file = λ told. (disks.Pages.reads c.copy_slots-copied.new.disk, back.file told, shut.reads (fresh.told told));
              images = λ told honest image left. shut.images (fresh.told told) (honest_is told honest) image ((back.leaves told image).0 left);
              owners = whole.owners;
            },
          ))
          (λ is. record {
            rose = elim (step.calls.failed (ap Err is))
                [ inl rose ↦ inl (let none = made.given.fresh in let count = back.disk_count in omega arith) | inr rose ↦ inr rose ];
            unsteady = λ told steady. step.succeeds (fresh.steady steady) (fresh.told told) (c.requires.steady steady) (c.requires.told told)
                (rw (← c.file_length.ensures) (made.room told)) (ap Err is);
          })
          half;
      keeps = back.keeps;
    }
