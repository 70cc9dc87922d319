use Rattle.std.proofs.Common.{◌≡◌, IsTrue, refl, ◌∙◌}
use Rattle.std.proofs.lemmas.Result.{err_from_is_err_and}
use Rattle.stream_io.specs.Store.{pages_state}
use Rattle.tool_base.proofs.Runs.{unchanged_none}
use Rattle.tool_blame.specs.Commits.{GoesWithReference, commits_name, no_memory, no_view}
use Rattle.tool_blame.proofs.Views.{behind_head, commits_refused, fails_part}
use Rattle.tool_desk.proofs.Taking.{refuses, refuses_unchanged, takes}
use Rattle.tool_base.proofs.Viewing.{keeps, reads_as, reads_part}
use Rattle.tool_sign.proofs.Overs.{failed_as}
use Rattle.tool_blame.proofs.commits.view_commits.Goals as goal

pub returns-in_err-name-clause-taken : goal.returns-in_err-name-clause-taken
returns-in_err-name-clause-taken g c =
    let p = err_from_is_err_and c.from_residual.result c.from_residual.ensures.1 in
    rw p.1 (refuses_unchanged g.S.Store.state _ _ _ _ p.0 (λ first last part. rw (p.2, c.in_err-name.ensures.refused) no_memory) (unchanged_none _))

pub returns-in-Err-Failed-clause-taken : goal.returns-in-Err-Failed-clause-taken
returns-in-Err-Failed-clause-taken g c =
    let failed = failed_as _ _ _ c.in-Err-Failed.field-0-is in
    let name : c.as_str.result.now ≡ commits_name c.args.prefix.now = c.as_str.ensures.value ∙ c.in_ok-name.ensures.name in
    let view = c.in-Err-Failed.ensures in
    refuses_unchanged g.S.Store.state _ _ _ _ _ (λ first last part. fails_part _ _ _ _ part _ _ _ (no_view (view.cause.rose failed, λ told steady. rw name at (view.absent told steady failed))))
    (record { same = view.refused; onward = view.onward })

pub returns-in-Err-NoMemory-clause-taken : goal.returns-in-Err-NoMemory-clause-taken
returns-in-Err-NoMemory-clause-taken g c =
    let view = c.in-Err-NoMemory.ensures in
    refuses_unchanged g.S.Store.state _ _ _ _ _ (λ first last part. no_memory) (record { same = view.refused; onward = view.onward })

pub returns-in-Ok-load-clause-taken : goal.returns-in-Ok-load-clause-taken
returns-in-Ok-load-clause-taken g c =
    let state = g.S.Store.state in
    let views = g.S.View in
    let pages = pages_state views.Pages.told views.Pages.honest views.Faults.steady views.Faults.count views.Pages.room views.Pages.reads views.Pages.may_leave in
    let name : c.as_str.result.now ≡ commits_name c.args.prefix.now = c.as_str.ensures.value ∙ c.in_ok-name.ensures.name in
    let view = pages c.in-Ok.view in
    takes state _ _ _ _ _
    (λ first last part. record {
      reads = reads_part _ _ _ _ part _ (GoesWithReference c.args.header.now)
          (reads_as (state c.args.store.now) _ (commits_name c.args.prefix.now) view view (rw name at c.in-Ok.ensures.viewed) refl refl (λ told. refl) _ (GoesWithReference c.args.header.now)
          c.in-Ok-load.ensures.faultless);
    })
    c.in-Ok.ensures.onward

pub returns-in-Ok-load-clause-reads : goal.returns-in-Ok-load-clause-reads
returns-in-Ok-load-clause-reads g c = λ told.
    let stay = c.in-Ok-load.ensures.loaded.1 in
    let before : IsTrue (g.S.View.Pages.told c.in-Ok.view) = rw (← stay.kind.told) told in
    record {
      faultless = rw (stay.same before) (c.in-Ok-load.ensures.faultless before);
      whole = rw (stay.same before) (behind_head _ _ (c.in-Ok-load.ensures.length before));
    }

pub returns-clause-taken : goal.returns-clause-taken
returns-clause-taken g c =
    let state = g.S.Store.state in
    let views = g.S.View in
    let pages = pages_state views.Pages.told views.Pages.honest views.Faults.steady views.Faults.count views.Pages.room views.Pages.reads views.Pages.may_leave in
    let name : c.as_str.result.now ≡ commits_name c.args.prefix.now = c.as_str.ensures.value ∙ c.in_ok-name.ensures.name in
    let again : c.as_str-in-Err.result.now ≡ commits_name c.args.prefix.now = c.as_str-in-Err.ensures.value ∙ c.in_ok-name.ensures.name in
    let load = c.in-Err.ensures in
    let stay = load.back in
    let viewed = rw name at c.in-Ok.ensures.viewed in
    refuses state _ _ _ _ _
    (λ first last part. fails_part _ _ _ _ part _ _ _
    (commits_refused c.args.header.now (state c.args.store.now) _ (commits_name c.args.prefix.now) (pages c.in-Ok.view) (pages c.in-Err.view) viewed
    stay.kind.told stay.kind.steady stay.same (state c.end_view.new.self) c.in-Ok.ensures.onward c.end_view.ensures.ended c.end_view.ensures.onward c.in-Err.fault _
    (λ file is told. (load.file file is).1 told) (λ is. load.device is) (λ is told steady. load.succeeds told steady is) (rw again at c.end_of_commits.ensures)))
    (keeps (state c.args.store.now) _ (commits_name c.args.prefix.now) (pages c.in-Ok.view) (pages c.in-Err.view) viewed
    stay.kind.told stay.kind.steady stay.same (state c.end_view.new.self) c.in-Ok.ensures.onward c.end_view.ensures.ended c.end_view.ensures.onward)
