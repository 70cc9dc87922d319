use Rattle.std.proofs.Common.{[]}
use Rattle.share_blame.specs.Commits.{pages_of}
use Rattle.stream_io.specs.Store.{StoreOnward, pages_state}
use Rattle.tool_base.proofs.Runs.{unchanged_none, unchanged_on, onward_none, onward_on, part_of}
use Rattle.tool_base.proofs.Outs.{keeps_unchanged}
use Rattle.tool_sign.proofs.Before.{has_files}
use Rattle.tool_sign.proofs.Whole.{keeps_on}
use Rattle.tool_sign.specs.Ports.{NetRun, over_net}
use Rattle.tool_sign.specs.Sessions.{answer_by}
use Rattle.tool_sign.specs.Sign.{session_words}
use Rattle.tool_words.specs.Rows.{sign_words}
use Rattle.tool_blame.proofs.Whole.{run_beside, run_without, unbegun}
use Rattle.tool_blame.specs.Blame.{no_key_files, no_reference}
use Rattle.tool_blame.proofs.command.sign_or_name.Goals as goal

pub returns-in-Err : goal.returns-in-Err
returns-in-Err g c = λ first unchanged.
    let last = c.read_key_and_tree.new.store in
    let read = c.in-Err.ensures in
    unbegun (sign_words c.args.words.now) _ _ _ _ (keeps_unchanged [] _ _ (unchanged_on _ _ _ unchanged read.unchanged))
    (no_key_files _ (read.refused first last (part_of _ _ _ _ unchanged (onward_none _))))

pub returns-in-Err-view_reference : goal.returns-in-Err-view_reference
returns-in-Err-view_reference g c = λ first before.
    let last = c.view_reference.new.store in
    let read = c.in-Ok.ensures in
    let viewed = c.in-Err-view_reference.ensures in
    let unchanged = unchanged_on _ _ _ before read.unchanged in
    unbegun (sign_words c.args.words.now) _ _ _ _ (keeps_on [] _ _ _ unchanged viewed.taken.keeps)
    (no_reference c.in-Ok.files _ (read.files first last (part_of _ _ _ _ before viewed.taken.onward)) (viewed.taken.refused first last (part_of _ _ _ _ unchanged (onward_none _))))

pub returns-in-Err-view_commits : goal.returns-in-Err-view_commits
returns-in-Err-view_commits g c = λ first before.
    let state = g.S.Store.state in
    let views = g.S.View in
    let pages = pages_state views.Pages.told views.Pages.honest views.Faults.steady views.Faults.count views.Pages.room views.Pages.reads views.Pages.may_leave in
    let words = sign_words c.args.words.now in
    let last = c.end_view.new.self in
    let read = c.in-Ok.ensures in
    let viewed = c.in-Ok-view_reference.ensures in
    let none = c.in-Err-view_commits.ensures in
    let header = c.in-Ok-view_reference.viewed.1 in
    let unchanged = unchanged_on _ _ _ before read.unchanged in
    let later = onward_on _ _ _ none.taken.onward c.end_view.ensures.onward in
    let has = has_files state first c.args.store.now c.read_key_and_tree.new.store c.view_reference.new.store last (session_words words) c.in-Ok.files header
    before read.unchanged viewed.taken.onward later read.files viewed.taken.found in
    run_without words c.in-Ok.files header (state first) (state c.read_key_and_tree.new.store) (state c.view_reference.new.store) (pages c.in-Ok-view_reference.viewed.0) unchanged viewed.viewed viewed.taken.onward
    (state c.view_commits.new.store) (state last) c.end_view.ensures.ended c.end_view.ensures.onward (g.N.Net.state c.args.net.now) c.in-Err-view_commits.end none.taken.keeps has
    (none.taken.refused c.view_reference.new.store c.view_commits.new.store (part_of _ _ _ _ (unchanged_none _) (onward_none _)))

pub returns : goal.returns
returns g c = λ first before.
    let state = g.S.Store.state in
    let views = g.S.View in
    let pages = pages_state views.Pages.told views.Pages.honest views.Faults.steady views.Faults.count views.Pages.room views.Pages.reads views.Pages.may_leave in
    let words = sign_words c.args.words.now in
    let last = c.end_view-3.new.self in
    let read = c.in-Ok.ensures in
    let viewed = c.in-Ok-view_reference.ensures in
    let besides = c.in-Ok-view_commits.ensures in
    let unchanged = unchanged_on _ _ _ before read.unchanged in
    let files = c.in-Ok.files in
    let header = c.in-Ok-view_reference.viewed.1 in
    let view = pages c.in-Ok-view_reference.viewed.0 in
    let now = pages c.name_beside-view.result.0 in
    let beside = pages (pages_of c.in-Ok-view_commits.commits) in
    let beside_now = pages (pages_of c.name_beside-view.new.commits) in
    let net : NetRun = over_net (g.N.Net.state c.args.net.now) (g.N.Net.state c.name_beside-view.new.net) in
    let has = λ (works : StoreOnward (state c.view_commits.new.store) (state c.name_beside-view.new.store)).
    let later = onward_on _ _ _ besides.taken.onward (onward_on _ _ _ works (onward_on _ _ _ c.end_view-2.ensures.onward c.end_view-3.ensures.onward)) in
    has_files state first c.args.store.now c.read_key_and_tree.new.store c.view_reference.new.store last (session_words words) files header
    before read.unchanged viewed.taken.onward later read.files viewed.taken.found in
    let told = run_beside words files header (state first) (state c.read_key_and_tree.new.store) (state c.view_reference.new.store) view unchanged viewed.viewed viewed.taken.onward
    state c.view_commits.new.store c.name_beside-view.new.store (state c.end_view-2.new.self) (state last) beside beside_now now besides.viewed besides.taken.onward
    (rw c.end.ensures at c.end_view-2.ensures.ended) c.end_view-2.ensures.onward c.end_view-3.ensures.ended c.end_view-3.ensures.onward net has
    viewed.reads (λ told. (besides.reads told).faultless)
    (besides.taken.found c.view_reference.new.store c.view_commits.new.store (part_of _ _ _ _ (unchanged_none _) (onward_none _)))
    (answer_by c.name_beside-view.result.1) c.name_beside-view.ensures in
    record { touched = told.touched; ends = told.ends; keeps = told.keeps; ports = told.ports }
