use Rattle.std.proofs.Common.{[], ◌∷◌, subst, arith}
use Rattle.lms_bytes.specs.MessageId.{message_id_bytes}
use Rattle.slot_file.specs.declared.header.Header.{Header}
use Rattle.stream_io.specs.Store.{StoreOnward, pages_state}
use Rattle.tool_base.specs.Endings.{ending}
use Rattle.tool_base.specs.Reads.{FailsToRead}
use Rattle.tool_base.specs.World.{IsUnchanged, from_to}
use Rattle.tool_base.proofs.Runs.{unchanged_none, unchanged_on, onward_on, part_of}
use Rattle.tool_journals.specs.Adding.{AddEnds, DiskFails, disk_run}
use Rattle.tool_base.specs.Headers.{book_header}
use Rattle.tool_journals.specs.Approve.{ApproveEnds, IsBookDisk, IsNotOpened, no_book, no_message, no_share}
use Rattle.tool_base.specs.Disks.{DeviceFails}
use Rattle.tool_base.specs.Disks.{IsOut}
use Rattle.tool_base.proofs.Outs.{IsBackAs}
use Rattle.tool_journals.proofs.Approving.{book_ends, book_out}
use Rattle.tool_base.proofs.Outs.{back_as, ends_map, out_unchanged, out_here, out_same}
use Rattle.tool_journals.proofs.Sharing.{next_fails, unshared}
use Rattle.tool_journals.proofs.commands.approve_message.Goals as goal

pub returns-in-Err : goal.returns-in-Err
returns-in-Err g c =
    record { ended = unshared g.S.Store.state c.args.store.now c.read_share_file.new.store c.args.share.now c.in-Err.ensures.unchanged _ _ (λ end fails. no_share end fails) c.in-Err.ensures.refused }

pub returns-in-Err-read_message : goal.returns-in-Err-read_message
returns-in-Err-read_message g c =
    let before = next_fails g.S.Store.state c.args.store.now c.read_share_file.new.store c.args.share.now c.in-Ok.ensures.unchanged c.read_message.new.store c.in-Ok.found in
    record { ended = before (λ run. FailsToRead run c.args.message.now (ending c.in-Err-read_message.end)) _ _ (λ share fails. no_message c.in-Ok.found _ share fails) c.in-Ok.ensures.share c.in-Err-read_message.ensures.unchanged c.in-Err-read_message.ensures.refused }

pub returns-in-Err-open_book : goal.returns-in-Err-open_book
returns-in-Err-open_book g c =
    let state = g.S.Store.state in
    let first = c.args.store.now in
    let mid = c.read_message.new.store in
    let last = c.open_book.new.store in
    let run = from_to (state first) (state last) in
    let book = c.args.book.now in
    let found = c.in-Ok.found in
    let id = message_id_bytes c.in-Ok-read_message.id in
    let one = c.in-Ok.ensures in
    let two = c.in-Ok-read_message.ensures in
    let three = c.in-Err-open_book.ensures in
    let end = ending c.in-Err-open_book.end in
    let later = (three.refused mid (unchanged_none _)).keeps.back.onward in
    let read = one.share first last (part_of _ _ _ _ (unchanged_none _) (onward_on _ _ _ two.unchanged.onward later)) in
    let text = two.id first last (part_of _ _ _ _ one.unchanged later) in
    record {
      ended = ends_map run (IsNotOpened run book c.book_of-blank.result.header) (ApproveEnds run c.args.share.now book c.args.message.now) end
          (three.refused first (unchanged_on _ _ _ one.unchanged two.unchanged))
          (λ touched is. no_book found id end touched read text (subst (λ h. IsNotOpened run book h end touched) c.book_of-blank.ensures.header is));
    }

pub return_disk-requires : goal.return_disk-requires
return_disk-requires g c =
    let state = g.S.Store.state in
    let disks = g.S.Disk in
    let dk = λ (d : g.row.S-Disk.Denot). pages_state disks.Pages.told disks.Pages.honest disks.Faults.steady disks.Faults.count disks.Pages.room disks.Pages.reads disks.Pages.may_leave d in
    let before = state c.read_message.new.store in
    let after = state c.open_book.new.store in
    let book = c.args.book.now in
    let old = dk c.in-Ok-open_book.disk in
    let now = dk c.add_message-disk.result.0 in
    let stays = c.add_message-disk.ensures.stays in
    let out : IsOut before book now after = out_same before after book old now (book_out before after book c.book_of-blank.result.header old c.in-Ok-open_book.ensures.opened)
    stays.told stays.honest stays.steady in
    record { out = out_here before after book now out }

pub returns : goal.returns
returns g c =
    let state = g.S.Store.state in
    let disks = g.S.Disk in
    let dk = λ (d : g.row.S-Disk.Denot). pages_state disks.Pages.told disks.Pages.honest disks.Faults.steady disks.Faults.count disks.Pages.room disks.Pages.reads disks.Pages.may_leave d in
    let first = state c.args.store.now in
    let before = state c.read_message.new.store in
    let after = state c.open_book.new.store in
    let last = state c.return_disk.new.self in
    let run = from_to first last in
    let book = c.args.book.now in
    let found = c.in-Ok.found in
    let id = message_id_bytes c.in-Ok-read_message.id in
    let old = dk c.in-Ok-open_book.disk in
    let now = dk c.add_message-disk.result.0 in
    let one = c.in-Ok.ensures in
    let two = c.in-Ok-read_message.ensures in
    let stays = c.add_message-disk.ensures.stays in
    let five = c.return_disk.ensures in
    let end = ending c.add_message-disk.result.1 in
    let unchanged : IsUnchanged first before = unchanged_on _ _ _ one.unchanged two.unchanged in
    let opened : IsBookDisk before book (book_header found) old after =
    subst (λ (h : Header). IsBookDisk before book h old after) c.book_of-blank.ensures.header c.in-Ok-open_book.ensures.opened in
    let here : IsOut before book old after = book_out before after book (book_header found) old opened in
    let went : IsOut first book old after = out_unchanged first before after book old unchanged here in
    let out : IsOut first book now after = out_same first after book old now went stays.told stays.honest stays.steady in
    let back : IsBackAs first book now last = back_as first after last book now out five.returned five.onward in
    let later : StoreOnward before last = onward_on before after last here.onward five.onward in
    let read = one.share c.args.store.now c.return_disk.new.self (part_of _ _ _ _ (unchanged_none _) (onward_on _ _ _ two.unchanged.onward later)) in
    let text = two.id c.args.store.now c.return_disk.new.self (part_of _ _ _ _ one.unchanged later) in
    let failed = DiskFails disks.Pages disks.Faults c.in-Ok-open_book.disk c.add_message-disk.result.0 in
    let fails : failed → DeviceFails run = λ is. record {
      rose = let rose = is.rose in let count = back.disk_count in omega arith;
      unsteady = λ told steady. is.unsteady (went.told told) (went.steady steady);
    } in
    let added : AddEnds failed (disk_run disks.Pages c.in-Ok-open_book.disk c.add_message-disk.result.0) (book_header found) id end =
    subst (λ (h : Header). AddEnds failed (disk_run disks.Pages c.in-Ok-open_book.disk c.add_message-disk.result.0) h id end) c.book_of-blank.ensures.header c.add_message-disk.ensures.ended in
    record {
      ended = record {
        touched = book ∷ [];
        cause = book_ends failed first before after last c.args.share.now book c.args.message.now found id old now end unchanged opened back five.onward fails read text added;
        keeps = back.keeps;
      };
    }
