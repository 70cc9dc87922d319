use Rattle.std.proofs.Common.{◌≡◌, ◌∙◌, Err, ap}
use Rattle.std.proofs.lemmas.Result.{err_from_is_err_and}
use Rattle.stream_io.specs.Store.{pages_state}
use Rattle.tool_base.proofs.Runs.{unchanged_none}
use Rattle.tool_desk.specs.Files.{reference_name}
use Rattle.tool_desk.specs.Reference.{no_memory, no_view}
use Rattle.tool_desk.proofs.Outs.{out_unchanged, reads_viewed}
use Rattle.tool_desk.proofs.Taking.{refuses, refuses_unchanged, takes}
use Rattle.tool_base.proofs.Viewing.{keeps}
use Rattle.tool_desk.proofs.Viewing.{fails_part, head_refused}
use Rattle.tool_desk.proofs.reference.view_reference.Goals as goal

pub returns-in_err-name-clause-taken : goal.returns-in_err-name-clause-taken
returns-in_err-name-clause-taken g c =
    let p = err_from_is_err_and c.from_residual.result c.from_residual.ensures.1 in
    rw p.1 (refuses_unchanged g.S.Store.state _ _ _ _ p.0 (λ first last part. rw (p.2, c.in_err-name.ensures.refused) no_memory) (unchanged_none _))

pub returns-in-Err-Failed-clause-taken : goal.returns-in-Err-Failed-clause-taken
returns-in-Err-Failed-clause-taken g c =
    let is = c.in-Err-Failed.field-0-is in
    let name : c.as_str.result.now ≡ reference_name c.args.prefix.now = c.as_str.ensures.value ∙ c.in_ok-name.ensures.name in
    let view = c.in-Err-Failed.ensures in
    refuses_unchanged g.S.Store.state _ _ _ _ _ (λ first last part. fails_part _ _ _ _ part _ _ (no_view (view.cause.rose (ap Err is), λ told steady. rw name at (view.absent told steady (ap Err is)))))
    (record { same = view.refused; onward = view.onward })

pub returns-in-Err-NoMemory-clause-taken : goal.returns-in-Err-NoMemory-clause-taken
returns-in-Err-NoMemory-clause-taken g c =
    let view = c.in-Err-NoMemory.ensures in
    refuses_unchanged g.S.Store.state _ _ _ _ _ (λ first last part. no_memory) (record { same = view.refused; onward = view.onward })

pub returns-in-Ok-read_head-clause-taken : goal.returns-in-Ok-read_head-clause-taken
returns-in-Ok-read_head-clause-taken g c =
    let views = g.S.View in
    let pages = pages_state views.Pages.told views.Pages.honest views.Faults.steady views.Faults.count views.Pages.room views.Pages.reads views.Pages.may_leave in
    let name : c.as_str.result.now ≡ reference_name c.args.prefix.now = c.as_str.ensures.value ∙ c.in_ok-name.ensures.name in
    let head = c.in-Ok-read_head.ensures in
    takes g.S.Store.state _ _ _ _ _
    (λ first last part. record {
      reads = reads_viewed _ _ _ 0 _ (out_unchanged _ _ part.earlier) c.in-Ok-read_head.header (pages c.in-Ok.view) _ (rw name at c.in-Ok.ensures.viewed) head.reads;
      dealt = head.dealt;
    })
    c.in-Ok.ensures.onward

pub returns-clause-taken : goal.returns-clause-taken
returns-clause-taken g c =
    let state = g.S.Store.state in
    let views = g.S.View in
    let pages = pages_state views.Pages.told views.Pages.honest views.Faults.steady views.Faults.count views.Pages.room views.Pages.reads views.Pages.may_leave in
    let name : c.as_str.result.now ≡ reference_name c.args.prefix.now = c.as_str.ensures.value ∙ c.in_ok-name.ensures.name in
    let again : c.as_str-in-Err.result.now ≡ reference_name c.args.prefix.now = c.as_str-in-Err.ensures.value ∙ c.in_ok-name.ensures.name in
    let head = c.in-Err.ensures in
    let viewed = rw name at c.in-Ok.ensures.viewed in
    refuses state _ _ _ _ _
    (λ first last part. fails_part _ _ _ _ part _ _
    (head_refused (state c.args.store.now) _ (reference_name c.args.prefix.now) (pages c.in-Ok.view) (pages c.read_head.new.pages) viewed
    head.stays_told head.stays_steady head.same (state c.end_view.new.self) c.in-Ok.ensures.onward c.end_view.ensures.ended c.end_view.ensures.onward c.in-Err.fault _
    (λ file is told. head.file file (cc) told) (λ is. head.cause.rose (cc)) (λ is told steady. head.succeeds told steady (cc)) (rw again at c.end_of_head.ensures)))
    (keeps (state c.args.store.now) _ (reference_name c.args.prefix.now) (pages c.in-Ok.view) (pages c.read_head.new.pages) viewed
    head.stays_told head.stays_steady head.same (state c.end_view.new.self) c.in-Ok.ensures.onward c.end_view.ensures.ended c.end_view.ensures.onward)
