use Rattle.std.proofs.Common.{◌≡◌, ◌+◌, All, vec_capacity, vec_len}
use Rattle.stream_io.specs.Store.{pages_state}
use Rattle.tool_desk.specs.Files.{reference_name}
use Rattle.tool_desk.specs.Views.{AddsCells}
use Rattle.tool_desk.proofs.views.view_others.Given as goal

-- that many views were added
abbrev pub invariant-loop : goal.invariant-loop
invariant-loop g l =
    let state = g.S.Store.state in
    let view = g.S.View in
    let pages = pages_state view.Pages.told view.Pages.honest view.Faults.steady view.Faults.count view.Pages.room view.Pages.reads view.Pages.may_leave in
    record {
      adds : AddsCells (state l.fn.store) (reference_name l.prefix) pages l.fn.cells.items l.cells.items (state l.store);
      many : vec_len l.cells ≡ vec_len l.fn.cells + l.counter;
      sound : (state l.store).disk_count ≡ (state l.fn.store).disk_count;
      fit : All (λ own. (own.layout.params ≡ l.files.key.params) × (own.layout.plan ≡ l.header.plan)) l.cells.items;
      room : vec_capacity l.cells ≡ vec_capacity l.fn.cells;
    }
