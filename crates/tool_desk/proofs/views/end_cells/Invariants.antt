use Rattle.std.proofs.Common.{◌≡◌, ◌++◌, ℕ, List, map, vec_len}
use Rattle.reference_value.specs.Paged.{pages_of}
use Rattle.tool_desk.specs.Views.{ViewsBack}
use Rattle.tool_desk.proofs.views.end_cells.Given as goal

-- the views that are gone came back
abbrev pub invariant-loop-own : goal.invariant-loop-own
invariant-loop-own g l = record {
  back : List ℕ;
  counts : map (λ own. g.S.View.Faults.count (pages_of own)) l.fn.cells.items ≡ map (λ own. g.S.View.Faults.count (pages_of own)) l.cells.items ++ back;
  ended : ViewsBack (g.S.Store.state l.fn.store) back (g.S.Store.state l.store);
}

abbrev pub decreases-loop-own : goal.decreases-loop-own
decreases-loop-own g l = vec_len l.cells
