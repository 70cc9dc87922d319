use Rattle.aggregator_session.specs.Desks.{DeskState}
use Rattle.std.proofs.Common.{◌+◌, ◌∙◌, ℕ, [], length, map, refl, ap, arith}
use Rattle.std.proofs.lemmas.List.{length-map}
use Rattle.std.proofs.lemmas.List.Elements.{All-weaker}
use Rattle.reference_value.specs.Paged.{pages_of}
use Rattle.reference_value.specs.declared.paged.Paged.{Paged}
use Rattle.stream_io.specs.Store.{pages_state}
use Rattle.tool_base.proofs.Nets.{net_none}
use Rattle.tool_base.proofs.Runs.{unchanged_none, onward_none, onward_on, part_of}
use Rattle.tool_aggregate.specs.Aggregate.{ended, no_desk}
use Rattle.tool_aggregate.specs.Desks.{no_key_files, no_references}
use Rattle.tool_aggregate.specs.Desks as desks
use Rattle.tool_aggregate.proofs.Whole.{all_read, ends_in, keeps_in}
use Rattle.tool_desk.specs.Files.{reference_name}
use Rattle.tool_sign.specs.Members.{address, placed}
use Rattle.tool_base.proofs.Outs.{keeps_unchanged}
use Rattle.tool_sign.proofs.Whole.{keeps_on}
use Rattle.tool_sign.specs.Ports.{over_net}
use Rattle.tool_sign.specs.Tasks.{desk_of}
use Rattle.tool_desk.proofs.Outs.{out_unchanged, out_on, view_before}
use Rattle.tool_desk.specs.Views.{IsViewOf}
use Rattle.tool_words.specs.Rows.{aggregate_words}
use Rattle.tool_aggregate.proofs.command.aggregate.Goals as goal

pub returns-in-Err : goal.returns-in-Err
returns-in-Err g c =
    let read = c.in-Err.ensures in
    record {
      touched = [];
      ends = no_desk _ (no_key_files _ (read.refused c.args.store.now c.read_key_and_tree.new.store (part_of _ _ _ _ (unchanged_none _) (onward_none _)))) refl;
      keeps = keeps_unchanged [] _ _ read.unchanged;
      ports = net_none _;
    }

pub returns-in_default : goal.returns-in_default
returns-in_default g c = record {
  touched = [];
  ends = no_desk _ desks.no_memory refl;
  keeps = keeps_unchanged [] _ _ c.in-Ok.ensures.unchanged;
  ports = net_none _;
}

pub returns-in-Err-viewed : goal.returns-in-Err-viewed
returns-in-Err-viewed g c =
    let first = c.args.store.now in
    let last = c.view_cells-viewed.new.store in
    let read = c.in-Ok.ensures in
    let viewed = c.in-Err-viewed.ensures in
    record {
      touched = [];
      ends = no_desk _ (no_references c.in-Ok.files _ (read.files first last (part_of _ _ _ _ (unchanged_none _) viewed.taken.onward)) (viewed.taken.refused first last (part_of _ _ _ _ read.unchanged (onward_none _)))) refl;
      keeps = keeps_on [] _ _ _ read.unchanged viewed.taken.keeps;
      ports = net_none _;
    }

pub returns : goal.returns
returns g c =
    let state = g.S.Store.state in
    let views = g.S.View in
    let pages = pages_state views.Pages.told views.Pages.honest views.Faults.steady views.Faults.count views.Pages.room views.Pages.reads views.Pages.may_leave in
    let words = aggregate_words c.args.words.now in
    let first = c.args.store.now in
    let last = c.end_cells.new.store in
    let read = c.in-Ok.ensures in
    let viewed = c.in-Ok-viewed.ensures in
    let run = c.serve_table-end.ensures in
    let ends = c.end_cells.ensures in
    let files = c.in-Ok.files in
    let header = c.in-Ok-viewed.viewed.1 in
    let olds = c.in-Ok-viewed.viewed.0.items in
    let news = c.serve_table-end.new.cells.items in
    let addresses = c.deref.result.now in
    let desk : DeskState = desk_of files header addresses in
    let name = reference_name words.prefix in
    let net = over_net (g.N.Net.state c.args.net.now) (g.N.Net.state c.serve_table-end.new.net) in
    let count : Paged g.row.S-View.Denot g.S.View.Pages g.S.View.Faults → ℕ = λ own. views.Faults.count (pages_of own) in
    let goes = out_on _ _ _ 0 _ (out_unchanged _ _ read.unchanged) viewed.cells.out in
    let same = viewed.counts.1 ∙ read.unchanged.same.loans.disk_count in
    let later = onward_on _ _ _ run.run.keeps.back.onward ends.onward in
    let reference = viewed.taken.found first last (part_of _ _ _ _ read.unchanged later) in
    let sizes = length-map news count in
    let one = c.in-Ok-viewed.viewed.0.ok.0 in
    let two = c.serve_table-end.new.cells.ok.0 in
    let counted = run.count in
    let are = All-weaker (λ own. IsViewOf (state c.read_key_and_tree.new.store) name (pages (pages_of own))) (λ own. IsViewOf (state first) name (pages (pages_of own)))
    (λ own is. view_before _ _ 0 name (pages (pages_of own)) (out_unchanged _ _ read.unchanged) is) olds viewed.cells.are in
    record {
      touched = run.run.touched;
      ends = ended header desk _ run.run.touched (record {
        files = files;
        files_are = read.files first last (part_of _ _ _ _ (unchanged_none _) (onward_on _ _ _ viewed.taken.onward later));
        reference_is = reference;
        one_key = viewed.key.0;
        addresses_are = ap (map address) c.deref.ensures.value ∙ c.in-Ok-addresses_of.ensures ∙ ap placed c.list.ensures;
        desk_is = refl;
      })
          (ends_in (state first) (state c.view_cells-viewed.new.store) (state c.serve_table-end.new.store) (state last) (0 + length olds) (map count news) goes same ends words net desk header
          run.run.ends (λ places references faults. all_read views.Pages views.Faults words (state first) (state last) header reference places olds are references faults) refl);
      keeps = keeps_in (state first) (state c.view_cells-viewed.new.store) (state c.serve_table-end.new.store) (state last) (0 + length olds) (map count news) goes same ends run.run.touched
          (omega (arith, sizes, one, two, counted)) run.run.keeps;
      ports = run.run.ports;
    }
