use Rattle.std.proofs.Common.{◌≡◌, IsTrue, subst, ◌∙◌}
use Rattle.approval_book.specs.Book.{disk_of, state_of}
use Rattle.lms_bytes.specs.MessageId.{message_id_bytes}
use Rattle.slot_file.specs.State.{StandsFor}
use Rattle.slot_file.specs.declared.header.Header.{Header}
use Rattle.tool_base.specs.Endings.{ending}
use Rattle.tool_journals.specs.Adding.{DiskFails, Stands, disk_run}
use Rattle.tool_journals.proofs.Adding.{add_ends, load_ends}
use Rattle.tool_journals.proofs.book.add_message.Goals as goal

pub returns-in-Ok-clause-ended : goal.returns-in-Ok-clause-ended
returns-in-Ok-clause-ended g c =
    let disk = c.args.disk in
    let header = c.args.header.now in
    let id = message_id_bytes c.args.id.now in
    let loaded = c.in-Ok.ensures.loaded in
    let added = c.add-added.ensures in
    let last = disk_of c.add-added.new.self in
    let holds = c.end.ensures.holds in
    let before = state_of c.in-Ok.book in
    let after = state_of c.add-added.new.self in
    let named : c.add-added.new.self.slots.slots.header ≡ header = added.stays.header ∙ loaded.named in
    let told : IsTrue (g.D.Pages.told disk) → IsTrue (g.D.Pages.told last) = λ is. rw (added.stays.disk.told ∙ loaded.unwritten.stays.told) is in
    let honest : IsTrue (g.D.Pages.honest disk) → IsTrue (g.D.Pages.honest last) = λ is. rw (added.stays.disk.honest ∙ loaded.unwritten.stays.honest) is in
    let stands : Stands (disk_run g.D.Pages disk last) header after = record {
      reads = λ is. subst (λ (h : Header). StandsFor h after (g.D.Pages.reads last)) named (holds.reads (told is));
      images = λ is keeps image left. subst (λ (h : Header). StandsFor h after image) named (holds.images (told is) (honest keeps) image left);
    } in
    rw c.end.ensures.disk (add_ends (DiskFails g.D.Pages g.D.Faults disk last) (disk_run g.D.Pages disk last) header id before c.add-added.result c.count.result after
    (ending c.end_of_add-end.result) c.end_of_add-end.ensures c.count.ensures loaded.settled loaded.file added.event
    (λ is. record { rose = rw (← loaded.faults) (added.cause.failed is); unsteady = λ known steady. added.succeeds (rw loaded.unwritten.stays.steady steady) (rw loaded.unwritten.stays.told known) is }) stands)

pub returns-in-Err-clause-ended : goal.returns-in-Err-clause-ended
returns-in-Err-clause-ended g c =
    let disk = c.args.disk in
    let step = c.in-Err.ensures in
    load_ends (DiskFails g.D.Pages g.D.Faults disk c.in-Err.disk) (disk_run g.D.Pages disk c.in-Err.disk) c.args.header.now (message_id_bytes c.args.id.now) c.in-Err.fault
    (ending c.end_of_slots.result) c.end_of_slots.ensures
    (λ is. record { rose = step.cause.failed is; unsteady = λ told steady. step.succeeds steady told is })
    (record { same = step.unwritten.same; images = λ told. step.unwritten.images }) step.refused
