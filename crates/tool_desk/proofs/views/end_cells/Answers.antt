use Rattle.std.proofs.Common.{◌≡◌, ◌∷◌, ◌++◌, [], List, ap, append-nil, map, sym, ◌∙◌, subst}
use Rattle.reference_value.specs.Paged.{pages_of}
use Rattle.reference_value.specs.declared.paged.Paged.{Paged}
use Rattle.stream_io.specs.Store.{pages_state}
use Rattle.tool_desk.specs.Views.{ViewsBack}
use Rattle.tool_desk.proofs.Outs.{back_more, back_none, counts_more}
use Rattle.tool_desk.proofs.views.end_cells.Goals as goal

pub loop-own-init : goal.loop-own-init
loop-own-init g c = record {
  back = [];
  counts = sym (append-nil _);
  ended = back_none _;
}

pub loop-own-preserved : goal.loop-own-preserved
loop-own-preserved g c =
    let state = g.S.Store.state in
    let view = g.S.View in
    let pages = pages_state view.Pages.told view.Pages.honest view.Faults.steady view.Faults.count view.Pages.room view.Pages.reads view.Pages.may_leave in
    let count = λ (own : Paged g.row.S-View.Denot g.S.View.Pages g.S.View.Faults). view.Faults.count (pages_of own) in
    let own = c.in-Some.own in
    let rest = c.pop.new.self.items in
    let popped : c.loop-own.cells.items ≡ rest ++ own ∷ [] = c.in-Some.ensures.items in
    let v = c.loop-own.invariant in
    let first = state c.args.store.now in
    let last = state c.end_view.new.self in
    record {
      back = count own ∷ v.back;
      counts = v.counts ∙ ap (λ (l : List (Paged g.row.S-View.Denot g.S.View.Pages g.S.View.Faults)). map count l ++ v.back) popped ∙ counts_more count rest own v.back;
      ended = subst (λ (gone : g.row.S-View.Denot). ViewsBack first (view.Faults.count gone ∷ v.back) last) c.end.ensures
          (back_more first (state c.loop-own.store) last v.back (pages c.end.result) v.ended c.end_view.ensures.ended c.end_view.ensures.onward);
    }
