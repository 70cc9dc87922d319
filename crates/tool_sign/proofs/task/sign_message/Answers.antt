use Rattle.std.proofs.Common.{[], Result, drop}
use Rattle.aggregator_session.specs.Signing.{Signature}
use Rattle.stream_io.specs.Store.{pages_state}
use Rattle.tool_base.proofs.Runs.{unchanged_on, onward_none, onward_on, part_of}
use Rattle.tool_base.specs.Ending.{Ending}
use Rattle.tool_base.specs.World.{from_to}
use Rattle.tool_desk.specs.Files.{reference_name}
use Rattle.tool_base.proofs.Outs.{keeps_unchanged}
use Rattle.tool_sign.proofs.Before.{has_files}
use Rattle.tool_sign.proofs.Whole.{goes_in, is_task, keeps_on, run_lacking, signed_with_key, unbegun, whole_ends, whole_keeps}
use Rattle.tool_sign.specs.Ports.{NetRun, Signing, is_exact, over_net}
use Rattle.tool_sign.specs.Sessions.{answer_by, ended}
use Rattle.tool_sign.specs.Sources.{session_words, source_of}
use Rattle.tool_sign.specs.Tasks.{desk_of, no_key_files, no_reference}
use Rattle.tool_sign.proofs.task.sign_message.Goals as goal

pub returns-in-Err : goal.returns-in-Err
returns-in-Err g c = λ first unchanged.
    let last = c.read_key_and_tree.new.store in
    let read = c.in-Err.ensures in
    unbegun (session_words c.args.words.now) (source_of c.args.message) _ _ _ _ (keeps_unchanged [] _ _ (unchanged_on _ _ _ unchanged read.unchanged))
    (no_key_files _ (read.refused first last (part_of _ _ _ _ unchanged (onward_none _))))

pub returns-in-Err-view_reference : goal.returns-in-Err-view_reference
returns-in-Err-view_reference g c = λ first before.
    let last = c.view_reference.new.store in
    let read = c.in-Ok.ensures in
    let viewed = c.in-Err-view_reference.ensures in
    let unchanged = unchanged_on _ _ _ before read.unchanged in
    unbegun (session_words c.args.words.now) (source_of c.args.message) _ _ _ _ (keeps_on [] _ _ _ unchanged viewed.taken.keeps)
    (no_reference c.in-Ok.files _ (read.files first last (part_of _ _ _ _ before viewed.taken.onward)) (viewed.taken.refused first last (part_of _ _ _ _ unchanged (onward_none _))))

pub returns-in-Err-read_task : goal.returns-in-Err-read_task
returns-in-Err-read_task g c = λ first before.
    let state = g.S.Store.state in
    let views = g.S.View in
    let pages = pages_state views.Pages.told views.Pages.honest views.Faults.steady views.Faults.count views.Pages.room views.Pages.reads views.Pages.may_leave in
    let words = session_words c.args.words.now in
    let last = c.end_view.new.self in
    let read = c.in-Ok.ensures in
    let viewed = c.in-Ok-view_reference.ensures in
    let lacks = c.in-Err-read_task.ensures in
    let unchanged = unchanged_on _ _ _ before read.unchanged in
    let later = onward_on _ _ _ lacks.unchanged.onward c.end_view.ensures.onward in
    let has = has_files state first c.args.store.now c.read_key_and_tree.new.store c.view_reference.new.store last words c.in-Ok.files c.in-Ok-view_reference.viewed.1
    before read.unchanged viewed.taken.onward later read.files viewed.taken.found in
    run_lacking words c.args.message c.in-Ok.files c.in-Ok-view_reference.viewed.1 (state first) (state c.read_key_and_tree.new.store) (state c.view_reference.new.store) (state c.read_task.new.store) (state last)
    (reference_name words.prefix) (pages c.in-Ok-view_reference.viewed.0) unchanged viewed.viewed viewed.taken.onward lacks.unchanged c.end_view.ensures.ended c.end_view.ensures.onward
    (g.N.Net.state c.args.net.now) c.in-Err-read_task.end has lacks.refused

pub returns : goal.returns
returns g c = λ first before.
    let state = g.S.Store.state in
    let views = g.S.View in
    let pages = pages_state views.Pages.told views.Pages.honest views.Faults.steady views.Faults.count views.Pages.room views.Pages.reads views.Pages.may_leave in
    let words = session_words c.args.words.now in
    let source = source_of c.args.message in
    let last = c.end_view-2.new.self in
    let read = c.in-Ok.ensures in
    let viewed = c.in-Ok-view_reference.ensures in
    let tasked = c.in-Ok-read_task.ensures in
    let run = c.sign_task-view.ensures.run.run in
    let unchanged = unchanged_on _ _ _ before read.unchanged in
    let files = c.in-Ok.files in
    let header = c.in-Ok-view_reference.viewed.1 in
    let view = pages c.in-Ok-view_reference.viewed.0 in
    let now = pages c.sign_task-view.result.0 in
    let task = c.in-Ok-read_task.task in
    let signing : Signing = record {
      desk = desk_of files header task.addresses.items;
      reads = record { told = view.told; leaves = drop 32 view.reads; before = view.count; now = now.count };
      exact = is_exact view.told view.steady (drop 32 view.reads) files.key.params header.plan;
      members = task.members;
      message = task.message.items;
    } in
    let net : NetRun = over_net (g.N.Net.state c.args.net.now) (g.N.Net.state c.sign_task-view.new.net) in
    let answer : Result Signature Ending = answer_by c.sign_task-view.result.1.outcome in
    let keeps = whole_keeps files header (state first) (state c.read_key_and_tree.new.store) (state c.view_reference.new.store) (state c.read_task.new.store) (reference_name words.prefix) view
    unchanged viewed.viewed viewed.taken.onward tasked.unchanged (state c.sign_task-view.new.store) (state last) now c.end_view-2.ensures.ended c.end_view-2.ensures.onward run.touched run.keeps in
    let ends = whole_ends files header (state first) (state c.read_key_and_tree.new.store) (state c.view_reference.new.store) (state c.read_task.new.store) (reference_name words.prefix) view
    unchanged viewed.viewed viewed.taken.onward tasked.unchanged (state c.sign_task-view.new.store) (state last) now c.end_view-2.ensures.ended c.end_view-2.ensures.onward signing words.table net answer run.touched run.ends in
    let works = onward_on _ _ _ run.keeps.back.onward c.end_view-2.ensures.onward in
    let has = has_files state first c.args.store.now c.read_key_and_tree.new.store c.view_reference.new.store last words files header
    before read.unchanged viewed.taken.onward (onward_on _ _ _ tasked.unchanged.onward works) read.files viewed.taken.found in
    let goes = goes_in words c.args.message files header (state first) (state c.read_key_and_tree.new.store) (state c.view_reference.new.store) (state c.read_task.new.store) (state last)
    (reference_name words.prefix) view unchanged viewed.viewed viewed.taken.onward tasked.unchanged task.message.items task.members task.addresses.items tasked.task in
    let task_is = is_task words files header tasked.sizes (state first) (state c.read_key_and_tree.new.store) (state c.view_reference.new.store) view unchanged viewed.viewed viewed.reads
    (source (from_to (state first) (state last))) (state c.read_task.new.store) (state c.sign_task-view.new.store) (state last) now task.message.items task.members task.addresses.items
    viewed.taken.onward tasked.unchanged run.keeps.back.onward c.end_view-2.ensures.ended has goes in
    record {
      touched = run.touched;
      ends = ended signing answer run.touched task_is ends.ends;
      signed = signed_with_key words (from_to (state first) (state last)) (source (from_to (state first) (state last))) net signing c.sign_task-view.result.1.outcome run.touched task_is ends.ends c.sign_task-view.ensures.key;
      keeps = keeps;
      ports = run.ports;
    }
