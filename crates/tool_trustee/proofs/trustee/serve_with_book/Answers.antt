use Rattle.std.proofs.Common.{◌≡◌, Some, IsTrue, refl, sym, ap, ◌∙◌, subst, arith}
use Rattle.std.specs.Option.{option_map}
use Rattle.trustee_core.specs.Approved.{ids_of}
use Rattle.approval_book.specs.Book.{state_of}
use Rattle.slot_file.specs.Loading.{LoadRefused}
use Rattle.slot_file.specs.State.{HasSlots}
use Rattle.slot_file.specs.Disks.{Unwritten}
use Rattle.stream_io.specs.Store.{handed, pages_state}
use Rattle.tool_base.specs.Endings.{ending}
use Rattle.tool_base.specs.World.{IsUnchanged, from_to}
use Rattle.tool_base.specs.Loads.{FailsToLoad}
use Rattle.tool_base.proofs.Outs.{out_here, taken_out}
use Rattle.tool_base.proofs.Takes.{back, reads_as, slots_not_loaded, stays}
use Rattle.tool_base.specs.Headers.{book_header}
use Rattle.tool_trustee.specs.Journals.{IsBook}
use Rattle.tool_trustee.specs.Nets.{service_of}
use Rattle.tool_base.proofs.Nets.{net_none}
use Rattle.tool_base.proofs.Heard.{heard_none}
use Rattle.tool_trustee.proofs.Booking.{handed_same, run_absent, run_refused, run_with, run_without}
use Rattle.tool_words.specs.Rows.{trustee_words}
use Rattle.trustee_node.specs.Trustees.{trustee_state}
use Rattle.tool_trustee.proofs.trustee.serve_with_book.Goals as goal

pub returns-in_default-clause-ended : goal.returns-in_default-clause-ended
returns-in_default-clause-ended g c =
    run_without (trustee_words c.args.words.now) (service_of c.args.share.now (trustee_state c.args.trustee) (trustee_state c.serve_net.result.0)) (c.serve_net.result.0 ≡ c.args.trustee)
    _ _ _ _ _ _ (ap (option_map (λ b. b.now)) c.in_default.is) c.serve_net.ensures.ends

pub returns-in-Err-clause-ended : goal.returns-in-Err-clause-ended
returns-in-Err-clause-ended g c =
    let take = c.in-Err.ensures in
    let is = c.in-Err.is in
    let unchanged : IsUnchanged (g.S.Store.state c.args.store.now) (g.S.Store.state c.take_disk.new.self) = record { same = take.refused; onward = take.onward } in
    run_absent (trustee_words c.args.words.now) (service_of c.args.share.now (trustee_state c.args.trustee) (trustee_state c.args.trustee)) (c.args.trustee ≡ c.args.trustee)
    _ _ _ _ _ _ c.in-Some.name.now (ap (option_map (λ b. b.now)) c.in-Some.is) (heard_none _ _ _ refl) c.in-Err.fault _ c.end_of_call.ensures refl unchanged
    (λ failed. take.cause.rose (cc)) (λ failed told steady. take.absent told steady (cc))

pub returns-in-Err-load-clause-ended : goal.returns-in-Err-load-clause-ended
returns-in-Err-load-clause-ended g c =
    let state = g.S.Store.state in
    let disks = g.S.Disk in
    let pages = pages_state disks.Pages.told disks.Pages.honest disks.Faults.steady disks.Faults.count disks.Pages.room disks.Pages.reads disks.Pages.may_leave in
    let first = state c.args.store.now in
    let last = state c.return_disk.new.self in
    let name = c.in-Some.name.now in
    let disk = pages c.in-Ok.disk in
    let now = pages c.in-Err-load.disk in
    let load = c.in-Err-load.ensures in
    let taken = c.in-Ok.ensures.taken in
    let goes = c.in-Ok.ensures.onward in
    let step = c.return_disk.ensures.returned in
    let comes = c.return_disk.ensures.onward in
    let kind = load.unwritten.stays in
    let refused : IsTrue disk.told → LoadRefused (book_header c.args.share.now) 1024 disk.reads c.in-Err-load.fault =
    λ told. subst (λ h. LoadRefused h 1024 disk.reads c.in-Err-load.fault) c.header_of.ensures (load.refused told) in
    let fails : FailsToLoad (book_header c.args.share.now) 1024 (from_to first last) name (ending c.end_of_slots.result) =
    subst (FailsToLoad (book_header c.args.share.now) 1024 (from_to first last) name) (sym c.end_of_slots.ensures)
    (slots_not_loaded first _ last name disk now taken goes step comes kind.told kind.honest kind.steady (book_header c.args.share.now) 1024 c.in-Err-load.fault refused load.succeeds load.cause) in
    run_refused (trustee_words c.args.words.now) (service_of c.args.share.now (trustee_state c.args.trustee) (trustee_state c.args.trustee)) (c.args.trustee ≡ c.args.trustee)
    _ _ _ _ _ _ name (ap (option_map (λ b. b.now)) c.in-Some.is) (heard_none _ _ _ refl) now _ refl
    (back first _ last name disk now taken goes step comes kind.told kind.honest kind.steady)
    (record { file = disk.reads; was = taken.reads; stays = stays first _ last name disk now taken goes step comes kind.told kind.honest kind.steady load.unwritten.same load.unwritten.images })
    fails

pub returns-clause-ended : goal.returns-clause-ended
returns-clause-ended g c =
    let state = g.S.Store.state in
    let disks = g.S.Disk in
    let pages = pages_state disks.Pages.told disks.Pages.honest disks.Faults.steady disks.Faults.count disks.Pages.room disks.Pages.reads disks.Pages.may_leave in
    let first = state c.args.store.now in
    let last = state c.return_disk-2.new.self in
    let name = c.in-Some.name.now in
    let share = c.args.share.now in
    let disk = pages c.in-Ok.disk in
    let now = pages c.end.result in
    let load = c.in-Ok-load.ensures.loaded in
    let ids = ids_of c.approved.result.now in
    let slots = (state_of c.in-Ok-load.book).slots in
    let taken = c.in-Ok.ensures.taken in
    let goes = c.in-Ok.ensures.onward in
    let step = c.return_disk-2.ensures.returned in
    let comes = c.return_disk-2.ensures.onward in
    let unwritten : Unwritten disks.Pages disks.Faults c.in-Ok.disk c.end.result =
    subst (λ d. Unwritten disks.Pages disks.Faults c.in-Ok.disk d) (sym c.end.ensures.disk) load.unwritten in
    let kind = unwritten.stays in
    let is_book : IsTrue disk.told → IsBook share ids disk.reads = λ told. record {
      slots = slots;
      has = subst (λ h. HasSlots h slots disk.reads) c.header_of.ensures (load.file told);
      many = load.size;
      lists = c.approved.ensures;
    } in
    run_with (trustee_words c.args.words.now) (service_of share (trustee_state c.args.trustee) (trustee_state c.serve_net-trustee.result.0)) (c.serve_net-trustee.result.0 ≡ c.args.trustee)
    first last _ _ _ _ name (ap (option_map (λ b. b.now)) c.in-Some.is) now ids _
    (back first _ last name disk now taken goes step comes kind.told kind.honest kind.steady)
    (record { file = disk.reads; was = taken.reads; stays = stays first _ last name disk now taken goes step comes kind.told kind.honest kind.steady unwritten.same unwritten.images })
    (reads_as first _ last name disk now taken goes step comes kind.told kind.honest kind.steady (IsBook share ids) is_book)
    c.serve_net-trustee.ensures.ends

pub returns-in_default-clause-name : goal.returns-in_default-clause-name
returns-in_default-clause-name g c = c.serve_net.ensures.name

pub returns-in_default-clause-faults : goal.returns-in_default-clause-faults
returns-in_default-clause-faults g c = c.serve_net.ensures.faults

pub returns-in_default-clause-net : goal.returns-in_default-clause-net
returns-in_default-clause-net g c = c.serve_net.ensures.net

pub returns-in_default-clause-time : goal.returns-in_default-clause-time
returns-in_default-clause-time g c = c.serve_net.ensures.time

pub returns-in-Err-clause-name : goal.returns-in-Err-clause-name
returns-in-Err-clause-name g c = refl

pub returns-in-Err-clause-faults : goal.returns-in-Err-clause-faults
returns-in-Err-clause-faults g c = omega arith

pub returns-in-Err-clause-net : goal.returns-in-Err-clause-net
returns-in-Err-clause-net g c = net_none _

pub returns-in-Err-clause-time : goal.returns-in-Err-clause-time
returns-in-Err-clause-time g c = refl

pub returns-in-Err-load-clause-name : goal.returns-in-Err-load-clause-name
returns-in-Err-load-clause-name g c = refl

pub returns-in-Err-load-clause-faults : goal.returns-in-Err-load-clause-faults
returns-in-Err-load-clause-faults g c = omega arith

pub returns-in-Err-load-clause-net : goal.returns-in-Err-load-clause-net
returns-in-Err-load-clause-net g c = net_none _

pub returns-in-Err-load-clause-time : goal.returns-in-Err-load-clause-time
returns-in-Err-load-clause-time g c = refl

pub returns-clause-name : goal.returns-clause-name
returns-clause-name g c = c.serve_net-trustee.ensures.name

pub returns-clause-faults : goal.returns-clause-faults
returns-clause-faults g c = c.serve_net-trustee.ensures.faults

pub returns-clause-net : goal.returns-clause-net
returns-clause-net g c = c.serve_net-trustee.ensures.net

pub returns-clause-time : goal.returns-clause-time
returns-clause-time g c = c.serve_net-trustee.ensures.time

pub load-requires : goal.load-requires
load-requires g c = ap (λ header. header.version) c.header_of.ensures

pub return_disk-requires : goal.return_disk-requires
return_disk-requires g c =
    let disks = g.S.Disk in
    let pages = pages_state disks.Pages.told disks.Pages.honest disks.Faults.steady disks.Faults.count disks.Pages.room disks.Pages.reads disks.Pages.may_leave in
    let name = c.in-Some.name.now in
    let disk = pages c.in-Ok.disk in
    let now = pages c.in-Err-load.disk in
    let out = c.in-Ok.ensures in
    let kind = c.in-Err-load.ensures.unwritten.stays in
    let same : handed disk ≡ handed now = handed_same disk now kind.told kind.honest kind.steady in
    record { out = λ is_told. out_here _ _ name disk (taken_out _ _ name disk out.taken out.onward) is_told ∙ ap Some same }

pub return_disk-requires-2 : goal.return_disk-requires-2
return_disk-requires-2 g c =
    let disks = g.S.Disk in
    let pages = pages_state disks.Pages.told disks.Pages.honest disks.Faults.steady disks.Faults.count disks.Pages.room disks.Pages.reads disks.Pages.may_leave in
    let name = c.in-Some.name.now in
    let disk = pages c.in-Ok.disk in
    let now = pages c.end.result in
    let out = c.in-Ok.ensures in
    let unwritten : Unwritten disks.Pages disks.Faults c.in-Ok.disk c.end.result =
    subst (λ d. Unwritten disks.Pages disks.Faults c.in-Ok.disk d) (sym c.end.ensures.disk) c.in-Ok-load.ensures.loaded.unwritten in
    let kind = unwritten.stays in
    let same : handed disk ≡ handed now = handed_same disk now kind.told kind.honest kind.steady in
    record { out = λ is_told. out_here _ _ name disk (taken_out _ _ name disk out.taken out.onward) is_told ∙ ap Some same }
