use Rattle.std.proofs.Common.{◌≡◌, sym, subst, refl, arith, inl, inr, ◌∙◌}
use Rattle.std.proofs.lemmas.List.Elements.{All-push}
use Rattle.std.proofs.lemmas.Result.{err_from_is_err_and}
use Rattle.stream_io.specs.Store.{pages_state}
use Rattle.tool_base.proofs.Runs.{unchanged_none, onward_none, part_of}
use Rattle.tool_base.specs.Ending.{Ending}
use Rattle.tool_base.specs.World.{from_to}
use Rattle.tool_desk.specs.Reference.{no_memory}
use Rattle.tool_desk.specs.Views.{FailsReferences, not_one_file, not_viewed}
use Rattle.tool_desk.proofs.Outs.{adds_ended, adds_kept, adds_more, adds_none, fails_out, out_on, reads_viewed}
use Rattle.tool_desk.proofs.views.view_others.Goals as goal

pub loop-init : goal.loop-init
loop-init g c =
    let view = g.S.View in
    let pages = pages_state view.Pages.told view.Pages.honest view.Faults.steady view.Faults.count view.Pages.room view.Pages.reads view.Pages.may_leave in
    record { adds = adds_none pages _ _ _; many = omega arith; sound = refl; fit = c.requires.fit; room = refl }

pub returns-in_err-view-clause-adds : goal.returns-in_err-view-clause-adds
returns-in_err-view-clause-adds g c =
    let view = g.S.View in
    let pages = pages_state view.Pages.told view.Pages.honest view.Faults.steady view.Faults.count view.Pages.room view.Pages.reads view.Pages.may_leave in
    adds_kept pages _ _ _ _ _ c.loop.invariant.adds _ c.in_err-view.ensures.taken.keeps

pub returns-in_err-view-clause-refused : goal.returns-in_err-view-clause-refused
returns-in_err-view-clause-refused g c =
    let p = err_from_is_err_and c.from_residual.result c.from_residual.ensures.1 in
    let adds = c.loop.invariant.adds in
    λ first last out goes later reads.
    rw (p.1, p.2)
    (not_viewed _ (fails_out _ _ _ _ _ (out_on _ _ _ _ _ goes adds.cells.out) later _ _
    (c.in_err-view.ensures.taken.refused c.loop.store c.view_reference.new.store (part_of _ _ _ _ (unchanged_none _) (onward_none _)))))

pub returns-then-not-is_same-clause-adds : goal.returns-then-not-is_same-clause-adds
returns-then-not-is_same-clause-adds g c =
    let view = g.S.View in
    let pages = pages_state view.Pages.told view.Pages.honest view.Faults.steady view.Faults.count view.Pages.room view.Pages.reads view.Pages.may_leave in
    let viewed = c.in_ok-view.ensures in
    adds_ended pages _ _ _ _ _ c.loop.invariant.adds _ _ _ _ viewed.viewed viewed.taken.onward c.end_view.ensures.ended c.end_view.ensures.onward

pub returns-then-not-is_same-clause-refused : goal.returns-then-not-is_same-clause-refused
returns-then-not-is_same-clause-refused g c =
    let viewed = c.in_ok-view.ensures in
    let adds = c.loop.invariant.adds in
    let state = g.S.Store.state in
    λ first last out goes later reads.
    let whole = out_on _ _ _ _ _ goes adds.cells.out in
    let Fails : Ending → Type 0 = λ end. FailsReferences (from_to (state first) (state last)) c.args.prefix.now c.args.files.now end in
    elim c.other_key.ensures [
      | inl none ↦ subst Fails (sym none) (not_viewed _ no_memory)
      | inr is ↦ subst Fails (sym is) (not_one_file c.args.header.now c.in_ok-view.other (λ same. absurd (let is = c.is_same.ensures same in let not = c.if-not-is_same.true in cc)) reads (reads_viewed _ _ _ _ _ whole _ _ _ viewed.viewed viewed.reads))
    ]

pub loop-preserved : goal.loop-preserved
loop-preserved g c =
    let view = g.S.View in
    let pages = pages_state view.Pages.told view.Pages.honest view.Faults.steady view.Faults.count view.Pages.room view.Pages.reads view.Pages.may_leave in
    let viewed = c.in_ok-view.ensures in
    let v = c.loop.invariant in
    record {
      adds = rw c.push_reserved.ensures.items (adds_more pages _ _ _ _ _ v.adds _ c.new.result c.in_ok-view.view c.new.ensures.pages viewed.viewed viewed.taken.onward);
      many = (let n = v.many in let p = c.push_reserved.ensures.len in omega (arith, n, p));
      sound = viewed.viewed.disk_count ∙ v.sound;
      fit = rw c.push_reserved.ensures.items (All-push (λ own. (own.layout.params ≡ c.args.files.now.key.params) × (own.layout.plan ≡ c.args.header.now.plan)) c.loop.cells.items c.new.result v.fit
          (c.new.ensures.set, c.new.ensures.plan));
      room = (let n = v.room in let p = c.push_reserved.ensures.capacity in omega (arith, n, p));
    }
