use Rattle.std.proofs.Common.{◌≡◌, ◌≢◌, ◌∙◌, ℕ, [], ◌∷◌, All, Err, List, IsTrue, ap, map, refl, subst, sym}
use Rattle.stream_io.specs.Store.{pages_state}
use Rattle.tool_base.specs.Disks.{IsOut}
use Rattle.tool_base.specs.Outputs.{IsNew}
use Rattle.tool_base.specs.World.{IsUnchanged, from_to}
use Rattle.tool_base.proofs.Outs.{made_out, out_here, out_same, out_unchanged}
use Rattle.tool_base.proofs.Runs.{back_unchanged, onward_none, onward_on, part_of, unchanged_none, unchanged_on}
use Rattle.tool_base.proofs.Writing.{not_new_of, not_new_part}
use Rattle.tool_desk.specs.Files.{reference_name}
use Rattle.tool_words.specs.Rows.{deal_words}
use Rattle.tool_keys.specs.Large.{IsLeftBeside, IsMadeAs, begun, dealing_in, done_of, key_outputs, not_made}
use Rattle.tool_keys.specs.Told.{nothing_told}
use Rattle.tool_keys.proofs.Names.{key_among, key_others, reference_among}
use Rattle.tool_keys.proofs.OnDisk.{all_back, all_beside, asked_for, beside_none, device_failed, ends_wide, left_beside, made_as, not_made_disk, rest_of, written_others}
use Rattle.tool_keys.proofs.large.deal_large.Goals as goal

pub returns-in-Err-clause-ended : goal.returns-in-Err-clause-ended
returns-in-Err-clause-ended g c =
    let one = c.in-Err.ensures in
    record {
      written = [];
      touched = [];
      cause = one.refused c.args.store.now c.read_asked.new.store (part_of _ _ _ _ (unchanged_none _) (onward_none _));
      left = beside_none _ _ one.unchanged;
    }

pub returns-in-Err-clause-back : goal.returns-in-Err-clause-back
returns-in-Err-clause-back g c = back_unchanged _ _ c.in-Err.ensures.unchanged

pub returns-in-Err-clause-told : goal.returns-in-Err-clause-told
returns-in-Err-clause-told g c = nothing_told c.in-Err.ensures.untold refl

pub returns-in-Err-new_disk-clause-ended : goal.returns-in-Err-new_disk-clause-ended
returns-in-Err-new_disk-clause-ended g c =
    let state = g.S.Store.state in
    let old = state c.args.store.now in
    let mid = state c.read_asked.new.store in
    let new = state c.new_disk.new.self in
    let one = c.in-Ok.ensures in
    let step = c.in-Err-new_disk.ensures in
    let still : IsUnchanged mid new = record { same = step.refused; onward = step.onward } in
    let asked = one.asked c.args.store.now c.new_disk.new.self (part_of _ _ _ _ (unchanged_none _) step.onward) in
    let named : c.as_str-name.result.now ≡ reference_name c.args.words.now.prefix.now = c.as_str-name.ensures.value ∙ asked.name in
    let not = not_new_of (from_to mid new) c.as_str-name.result.now c.in-Err-new_disk.fault _ c.end_of_new.ensures
    (λ is told. step.exists told (ap Err is))
    (λ is. record { rose = step.cause.rose (ap Err is); unsteady = λ steady. step.answers steady (ap Err is) }) in
    let whole = not_new_part old mid new new (part_of old mid new new one.unchanged (onward_none new)) c.as_str-name.result.now _ not in
    let end = not_made_disk (from_to old new) (reference_name c.args.words.now.prefix.now) _
    (reference_among (IsNew (from_to old new)) c.args.words.now.prefix.now c.in-Ok.asked.plan.n asked.new) (rw named at whole) in
    record {
      written = [];
      touched = [];
      cause = not_made (dealing_in c.in-Ok.asked) (done_of c.in-Ok.asked) _ (asked_for _ (deal_words c.args.words.now) c.in-Ok.asked asked) end;
      left = beside_none _ _ (unchanged_on _ _ _ one.unchanged still);
    }

pub returns-in-Err-new_disk-clause-back : goal.returns-in-Err-new_disk-clause-back
returns-in-Err-new_disk-clause-back g c =
    let step = c.in-Err-new_disk.ensures in
    let still : IsUnchanged (g.S.Store.state c.read_asked.new.store) (g.S.Store.state c.new_disk.new.self) = record { same = step.refused; onward = step.onward } in
    back_unchanged _ _ (unchanged_on _ _ _ c.in-Ok.ensures.unchanged still)

pub deal_and_publish-end-requires-clause-asked : goal.deal_and_publish-end-requires-clause-asked
deal_and_publish-end-requires-clause-asked g c = λ lives order.
    (c.in-Ok.ensures.asked c.args.store.now c.read_asked.new.store (part_of _ _ _ _ (unchanged_none _) (onward_none _))).are

pub deal_and_publish-end-requires-clause-dealable : goal.deal_and_publish-end-requires-clause-dealable
deal_and_publish-end-requires-clause-dealable g c = λ lives order.
    (c.in-Ok.ensures.asked c.args.store.now c.read_asked.new.store (part_of _ _ _ _ (unchanged_none _) (onward_none _))).dealable

pub deal_and_publish-end-requires-clause-empty : goal.deal_and_publish-end-requires-clause-empty
deal_and_publish-end-requires-clause-empty g c = λ lives order. c.in-Ok-new_disk.ensures.made.reads

pub deal_and_publish-end-requires-clause-new : goal.deal_and_publish-end-requires-clause-new
deal_and_publish-end-requires-clause-new g c =
    let state = g.S.Store.state in
    let disks = g.S.Disk in
    let dk = λ (d : g.row.S-Disk.Denot). pages_state disks.Pages.told disks.Pages.honest disks.Faults.steady disks.Faults.count disks.Pages.room disks.Pages.reads disks.Pages.may_leave d in
    let old = state c.args.store.now in
    let mid = state c.read_asked.new.store in
    let new = state c.new_disk.new.self in
    let one = c.in-Ok.ensures in
    let prefix = c.args.words.now.prefix.now in
    let d = dealing_in c.in-Ok.asked in
    let asked = one.asked c.args.store.now c.new_disk.new.self (part_of _ _ _ _ (unchanged_none _) c.in-Ok-new_disk.ensures.onward) in
    let named : c.as_str-name.result.now ≡ reference_name prefix = c.as_str-name.ensures.value ∙ asked.name in
    let out : IsOut old c.as_str-name.result.now (dk c.in-Ok-new_disk.disk) new =
    out_unchanged old mid new c.as_str-name.result.now (dk c.in-Ok-new_disk.disk) one.unchanged
    (made_out mid new c.as_str-name.result.now _ (dk c.in-Ok-new_disk.disk) c.in-Ok-new_disk.ensures.made c.in-Ok-new_disk.ensures.onward) in
    λ lives order. all_beside old new new (reference_name prefix) (dk c.in-Ok-new_disk.disk) (rw named at out)
    (map (λ output. output.name) (key_outputs prefix d)) (key_among (IsNew (from_to old new)) prefix d asked.new) (key_others prefix d)

pub return_disk-requires : goal.return_disk-requires
return_disk-requires g c =
    let state = g.S.Store.state in
    let disks = g.S.Disk in
    let dk = λ (d : g.row.S-Disk.Denot). pages_state disks.Pages.told disks.Pages.honest disks.Faults.steady disks.Faults.count disks.Pages.room disks.Pages.reads disks.Pages.may_leave d in
    let old = state c.args.store.now in
    let mid = state c.read_asked.new.store in
    let new = state c.new_disk.new.self in
    let two = c.deal_and_publish-end.ensures in
    let name = c.as_str-name.result.now in
    let out : IsOut mid name (dk c.in-Ok-new_disk.disk) new =
    made_out mid new name _ (dk c.in-Ok-new_disk.disk) c.in-Ok-new_disk.ensures.made c.in-Ok-new_disk.ensures.onward in
    let now : IsOut mid name (dk c.deal_and_publish-end.new.disk) new =
    out_same mid new name (dk c.in-Ok-new_disk.disk) (dk c.deal_and_publish-end.new.disk) out two.stays.told two.stays.honest two.stays.steady in
    record {
      out = λ told.
          let before : IsTrue new.told = rw (← two.back.onward.told) told in
          two.back.out before name ∙ out_here mid new name (dk c.deal_and_publish-end.new.disk) now before;
    }

pub returns-clause-ended : goal.returns-clause-ended
returns-clause-ended g c =
    let state = g.S.Store.state in
    let disks = g.S.Disk in
    let dk = λ (d : g.row.S-Disk.Denot). pages_state disks.Pages.told disks.Pages.honest disks.Faults.steady disks.Faults.count disks.Pages.room disks.Pages.reads disks.Pages.may_leave d in
    let old = state c.args.store.now in
    let mid = state c.read_asked.new.store in
    let new = state c.new_disk.new.self in
    let after = state c.deal_and_publish-end.new.store in
    let last = state c.return_disk.new.self in
    let one = c.in-Ok.ensures in
    let made = c.in-Ok-new_disk.ensures.made in
    let two = c.deal_and_publish-end.ensures in
    let comes = c.return_disk.ensures.onward in
    let words = deal_words c.args.words.now in
    let prefix = c.args.words.now.prefix.now in
    let d = dealing_in c.in-Ok.asked in
    let done = done_of c.in-Ok.asked in
    let name = c.as_str-name.result.now in
    let run = from_to old last in
    let goes = onward_on mid new last c.in-Ok-new_disk.ensures.onward (onward_on new after last two.back.onward comes) in
    let asked = one.asked c.args.store.now c.return_disk.new.self (part_of old old mid last (unchanged_none old) goes) in
    let named : name ≡ reference_name prefix = c.as_str-name.ensures.value ∙ asked.name in
    let before = dk c.in-Ok-new_disk.disk in
    let now = dk c.deal_and_publish-end.new.disk in
    let fresh : IsOut old name before new = out_unchanged old mid new name before one.unchanged (made_out mid new name _ before made c.in-Ok-new_disk.ensures.onward) in
    let out : IsOut old name now new = out_same old new name before now fresh two.stays.told two.stays.honest two.stays.steady in
    let ends = two.ended c.new_disk.new.self (unchanged_none new) in
    let others = written_others (from_to new after) prefix d done _ now ends.written ends.cause in
    let differ = subst (λ (n : List ℕ). All (λ other. other ≢ n) (map (λ output. output.name) ends.written)) (sym named) others in
    let wide = ends_wide old new after last fresh.onward comes prefix d done _ now ends.written ends.cause in
    let returned = c.return_disk.ensures.returned in
    let left = left_beside old new after last name ends.written now out ends.left two.back returned comes differ in
    let rest = rest_of run words d done _ ends.written now wide
    (λ Reads Leaves disk. subst (λ (n : List ℕ). IsMadeAs run n Reads Leaves) named
    (made_as old new after last name ends.written now out ends.left two.back returned comes differ Reads Leaves
    (λ told. made.readers (rw (← c.in-Ok-new_disk.ensures.onward.told) told)) disk))
    (λ is. device_failed old new after last name ends.written now out ends.left two.back returned comes differ
    (rw made.given.fresh at (two.device is))
    (λ told steady. two.succeeds (fresh.steady steady) (fresh.told told)
    (rw (← c.k.ensures.value, ← c.length_of_reference-size.ensures) (made.room (rw one.unchanged.onward.told told))) is)) in
    record {
      written = ends.written;
      touched = reference_name prefix ∷ [];
      cause = begun d done _ ends.written (asked_for run words c.in-Ok.asked asked) rest;
      left = subst (λ (n : List ℕ). IsLeftBeside (n ∷ []) run ends.written) named left;
    }

pub returns-clause-back : goal.returns-clause-back
returns-clause-back g c =
    let state = g.S.Store.state in
    let disks = g.S.Disk in
    let dk = λ (d : g.row.S-Disk.Denot). pages_state disks.Pages.told disks.Pages.honest disks.Faults.steady disks.Faults.count disks.Pages.room disks.Pages.reads disks.Pages.may_leave d in
    let old = state c.args.store.now in
    let mid = state c.read_asked.new.store in
    let new = state c.new_disk.new.self in
    let after = state c.deal_and_publish-end.new.store in
    let last = state c.return_disk.new.self in
    let one = c.in-Ok.ensures in
    let made = c.in-Ok-new_disk.ensures.made in
    let two = c.deal_and_publish-end.ensures in
    let comes = c.return_disk.ensures.onward in
    let prefix = c.args.words.now.prefix.now in
    let d = dealing_in c.in-Ok.asked in
    let done = done_of c.in-Ok.asked in
    let name = c.as_str-name.result.now in
    let goes = onward_on mid new last c.in-Ok-new_disk.ensures.onward (onward_on new after last two.back.onward comes) in
    let asked = one.asked c.args.store.now c.return_disk.new.self (part_of old old mid last (unchanged_none old) goes) in
    let named : name ≡ reference_name prefix = c.as_str-name.ensures.value ∙ asked.name in
    let before = dk c.in-Ok-new_disk.disk in
    let now = dk c.deal_and_publish-end.new.disk in
    let fresh : IsOut old name before new = out_unchanged old mid new name before one.unchanged (made_out mid new name _ before made c.in-Ok-new_disk.ensures.onward) in
    let out : IsOut old name now new = out_same old new name before now fresh two.stays.told two.stays.honest two.stays.steady in
    let ends = two.ended c.new_disk.new.self (unchanged_none new) in
    let others = written_others (from_to new after) prefix d done _ now ends.written ends.cause in
    let differ = subst (λ (n : List ℕ). All (λ other. other ≢ n) (map (λ output. output.name) ends.written)) (sym named) others in
    all_back old new after last name ends.written now out ends.left two.back c.return_disk.ensures.returned comes differ
