use Rattle.std.proofs.Common.{[], ◌∷◌}
use Rattle.stream_io.specs.Store.{pages_state}
use Rattle.tool_base.specs.World.{from_to}
use Rattle.tool_base.proofs.Runs.{unchanged_none, onward_none, onward_on, part_of}
use Rattle.tool_journals.specs.Enrol.{enrolled, not_made, not_read}
use Rattle.tool_journals.proofs.Blanks.{made_of}
use Rattle.tool_journals.proofs.Later.{keeps_later, made_later, not_made_later}
use Rattle.tool_base.proofs.Outs.{IsBackAs, back_as}
use Rattle.tool_journals.proofs.commands.enrol_file.Goals as goal

pub returns-in-Err : goal.returns-in-Err
returns-in-Err g c =
    let state = g.S.Store.state in
    let first = c.args.store.now in
    let last = c.read_blank.new.store in
    let one = c.in-Err.ensures in
    record {
      ended = record {
        touched = [];
        cause = not_read _ (one.refused first last (part_of _ _ _ _ (unchanged_none (state first)) (onward_none (state last))));
        keeps = one.keeps;
      };
    }

pub returns-in-Ok-new_blank : goal.returns-in-Ok-new_blank
returns-in-Ok-new_blank g c =
    let state = g.S.Store.state in
    let disks = g.S.Disk in
    let first = c.args.store.now in
    let last = c.return_disk.new.self in
    let name = c.args.journal.now in
    let one = c.in-Ok.ensures in
    let made = c.in-Ok-new_blank.ensures.made in
    let before = state c.read_blank.new.store in
    let after = state c.new_blank.new.store in
    let header = c.in-Ok.blank.header in
    let count = c.in-Ok.blank.count in
    let disk = pages_state disks.Pages.told disks.Pages.honest disks.Faults.steady disks.Faults.count disks.Pages.room disks.Pages.reads disks.Pages.may_leave c.in-Ok-new_blank.disk in
    let back : IsBackAs before name disk (state last) = back_as before after (state last) name disk made.is_out c.return_disk.ensures.returned c.return_disk.ensures.onward in
    let read = one.blank first last (part_of (state first) (state first) before (state last) (unchanged_none (state first)) (onward_on before after (state last) made.is_out.onward c.return_disk.ensures.onward)) in
    let is = made_of before before after (state last) name header count disk (unchanged_none before) made back c.return_disk.ensures.onward in
    record {
      ended = record {
        touched = name ∷ [];
        cause = enrolled header count read (made_later (state first) before (state last) one.keeps name header count is);
        keeps = keeps_later (state first) before (state last) one.keeps (name ∷ []) back.keeps;
      };
    }

pub returns-in-Err-new_blank : goal.returns-in-Err-new_blank
returns-in-Err-new_blank g c =
    let state = g.S.Store.state in
    let first = c.args.store.now in
    let mid = c.read_blank.new.store in
    let last = c.new_blank.new.store in
    let one = c.in-Ok.ensures in
    let two = c.in-Err-new_blank.ensures.refused mid (unchanged_none (state mid)) in
    let read = one.blank first last (part_of _ _ _ _ (unchanged_none (state first)) two.keeps.back.onward) in
    let header = c.in-Ok.blank.header in
    let count = c.in-Ok.blank.count in
    record {
      ended = record {
        touched = two.touched;
        cause = not_made header count _ two.touched read (not_made_later (state first) (state mid) (state last) one.keeps c.args.journal.now header count _ two.touched two.cause);
        keeps = keeps_later (state first) (state mid) (state last) one.keeps two.touched two.keeps;
      };
    }
