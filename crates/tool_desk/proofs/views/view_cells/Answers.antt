use Rattle.std.proofs.Common.{◌≡◌, ◌∷◌, ◌++◌, ◌+◌, [], List, ap, ◌∙◌, subst}
use Rattle.reference_value.specs.declared.paged.Paged.{Paged}
use Rattle.stream_io.specs.Store.{pages_state}
use Rattle.tool_base.proofs.Runs.{unchanged_none, onward_on, part_of}
use Rattle.tool_desk.specs.Files.{reference_name}
use Rattle.tool_desk.specs.Reference.{no_memory}
use Rattle.tool_desk.specs.Views.{AddsCells, not_viewed, other_key}
use Rattle.tool_desk.proofs.Outs.{all_cells, all_had, keeps_all, kept_none, one_of_set, out_unchanged, out_ended, out_more, out_none, room_for_first, room_for_others}
use Rattle.tool_desk.proofs.Taking.{refuses, refuses_unchanged, takes}
use Rattle.tool_desk.proofs.views.view_cells.Goals as goal

pub returns-in_default-clause-taken : goal.returns-in_default-clause-taken
returns-in_default-clause-taken g c = refuses_unchanged g.S.Store.state _ _ _ _ _ (λ first last part. not_viewed _ no_memory) (unchanged_none _)

pub returns-in-Err-clause-taken : goal.returns-in-Err-clause-taken
returns-in-Err-clause-taken g c =
    let none = c.in-Err.ensures.taken in
    refuses g.S.Store.state _ _ _ _ _ (λ first last part. not_viewed _ (none.refused first last part)) none.keeps

pub returns-in-Err-test_same_key-clause-taken : goal.returns-in-Err-test_same_key-clause-taken
returns-in-Err-test_same_key-clause-taken g c =
    let viewed = c.in-Ok-view_reference.ensures in
    let ends = c.end_view.ensures in
    refuses g.S.Store.state _ _ _ _ _
    (λ first last part.
    other_key c.in-Ok-view_reference.viewed.1 _ (viewed.taken.found first last (part_of _ _ _ _ part.earlier (onward_on _ _ _ ends.onward part.later)))
    c.in-Err-test_same_key.ensures.refused)
    (kept_none _ _ (out_ended _ _ _ _ 0 _ _ _ (out_none _) viewed.viewed viewed.taken.onward ends.ended ends.onward))

pub returns-in-Ok-view_others-clause-taken : goal.returns-in-Ok-view_others-clause-taken
returns-in-Ok-view_others-clause-taken g c =
    let viewed = c.in-Ok-view_reference.ensures.taken in
    let goes = c.in-Ok-view_others.ensures.adds.cells.out.onward in
    takes g.S.Store.state _ _ _ _ _ (λ first last part. viewed.found first last (part_of _ _ _ _ part.earlier (onward_on _ _ _ goes part.later))) (onward_on _ _ _ viewed.onward goes)

pub returns-in-Ok-view_others-clause-cells : goal.returns-in-Ok-view_others-clause-cells
returns-in-Ok-view_others-clause-cells g c =
    let state = g.S.Store.state in
    let view = g.S.View in
    let pages = pages_state view.Pages.told view.Pages.honest view.Faults.steady view.Faults.count view.Pages.room view.Pages.reads view.Pages.may_leave in
    let viewed = c.in-Ok-view_reference.ensures in
    let own = c.new.result in
    let name = reference_name c.args.prefix.now in
    let items : c.push_reserved.new.self.items ≡ own ∷ [] = c.push_reserved.ensures.items ∙ ap (λ (l : List (Paged g.row.S-View.Denot g.S.View.Pages g.S.View.Faults)). l ++ own ∷ []) c.in-Ok.ensures.items in
    let adds = subst (λ (l : List (Paged g.row.S-View.Denot g.S.View.Pages g.S.View.Faults)). AddsCells (state c.view_reference.new.store) name pages l c.view_others.new.cells.items (state c.view_others.new.store)) items
    c.in-Ok-view_others.ensures.adds in
    all_cells pages (state c.args.store.now) (state c.view_reference.new.store) (state c.view_others.new.store) name own c.in-Ok-view_reference.viewed.0 c.new.ensures.pages
    c.view_others.new.cells.items viewed.viewed viewed.taken.onward adds

pub returns-in-Err-view_others-clause-taken : goal.returns-in-Err-view_others-clause-taken
returns-in-Err-view_others-clause-taken g c =
    let state = g.S.Store.state in
    let view = g.S.View in
    let pages = pages_state view.Pages.told view.Pages.honest view.Faults.steady view.Faults.count view.Pages.room view.Pages.reads view.Pages.may_leave in
    let viewed = c.in-Ok-view_reference.ensures in
    let others = c.in-Err-view_others.ensures in
    let ends = c.end_cells.ensures in
    let own = c.new.result in
    let name = reference_name c.args.prefix.now in
    let items : c.push_reserved.new.self.items ≡ own ∷ [] = c.push_reserved.ensures.items ∙ ap (λ (l : List (Paged g.row.S-View.Denot g.S.View.Pages g.S.View.Faults)). l ++ own ∷ []) c.in-Ok.ensures.items in
    let adds = subst (λ (l : List (Paged g.row.S-View.Denot g.S.View.Pages g.S.View.Faults)). AddsCells (state c.view_reference.new.store) name pages l c.view_others.new.cells.items (state c.view_others.new.store)) items others.adds in
    refuses state _ _ _ _ _
    (λ first last part.
    let later = onward_on _ _ _ ends.onward part.later in
    others.refused first last (0 + 1) (out_more _ _ _ _ _ _ (out_unchanged _ _ part.earlier) viewed.viewed viewed.taken.onward) later
    (viewed.taken.found first last (part_of _ _ _ _ part.earlier (onward_on _ _ _ others.adds.cells.out.onward later))).reads)
    (keeps_all pages (state c.args.store.now) (state c.view_reference.new.store) (state c.view_others.new.store) name own c.in-Ok-view_reference.viewed.0 c.new.ensures.pages
    c.view_others.new.cells.items viewed.viewed viewed.taken.onward adds (state c.end_cells.new.store) (λ one. view.Faults.count one.pages) ends)

pub new-requires : goal.new-requires
new-requires g c = c.in_default-test_same_key.ensures.sizes.plan_height

pub push_reserved-requires : goal.push_reserved-requires
push_reserved-requires g c = room_for_first c.requires.some c.in-Ok.ensures.len c.in-Ok.ensures.exact

pub view_others-requires-clause-room : goal.view_others-requires-clause-room
view_others-requires-clause-room g c κs within =
    let room = c.in-Ok.ensures in
    let pushed = c.push_reserved.ensures in
    room_for_others c.requires.some room.len pushed.len room.exact pushed.capacity

pub view_others-requires-clause-sizes : goal.view_others-requires-clause-sizes
view_others-requires-clause-sizes g c κs within = c.in_default-test_same_key.ensures.sizes

pub view_others-requires-clause-fit : goal.view_others-requires-clause-fit
view_others-requires-clause-fit g c κs within =
    let own = c.new.result in
    one_of_set c.args.files.now.key.params c.in-Ok-view_reference.viewed.1.plan own c.push_reserved.new.self.items
    (c.push_reserved.ensures.items ∙ ap (λ (l : List (Paged g.row.S-View.Denot g.S.View.Pages g.S.View.Faults)). l ++ own ∷ []) c.in-Ok.ensures.items) c.new.ensures.set c.new.ensures.plan

pub returns-in-Ok-view_others-clause-key : goal.returns-in-Ok-view_others-clause-key
returns-in-Ok-view_others-clause-key g c = (c.in_default-test_same_key.ensures.same, c.in_default-test_same_key.ensures.sizes)

pub returns-in-Ok-view_others-clause-fit : goal.returns-in-Ok-view_others-clause-fit
returns-in-Ok-view_others-clause-fit g c = c.in-Ok-view_others.ensures.fit

pub returns-in-Ok-view_others-clause-counts : goal.returns-in-Ok-view_others-clause-counts
returns-in-Ok-view_others-clause-counts g c =
    let counts = c.in-Ok-view_others.ensures.counts in
    (all_had c.requires.some c.in-Ok.ensures.len c.push_reserved.ensures.len counts.0, counts.1 ∙ c.in-Ok-view_reference.ensures.viewed.disk_count)
