use Rattle.std.proofs.Common.{◌≡◌, ◌∷◌, [], Some, Err, refl, ap, ◌∙◌, subst}
use Rattle.std.proofs.lemmas.List.Elements.{All-nil}
use Rattle.leaf_table.specs.Loaded.{IsLoaded}
use Rattle.aggregator_session.specs.Desks.{desk_state}
use Rattle.aggregator_session.specs.Tables.{table_seen}
use Rattle.tool_base.specs.World.{IsUnchanged, from_to}
use Rattle.tool_base.specs.Disks.{Stays}
use Rattle.tool_base.proofs.Outs.{keeps_unchanged, out_here, taken_out}
use Rattle.tool_base.proofs.Heard.{heard_none}
use Rattle.tool_base.proofs.Nets.{net_none}
use Rattle.tool_aggregate.specs.Aggregate.{no_memory, no_table, not_loaded}
use Rattle.tool_aggregate.specs.Serving.{cells_run}
use Rattle.tool_aggregate.proofs.Tables.{ends_whole}
use Rattle.tool_sign.proofs.Tables.{disk_seen, same_disk, table_refused, table_round}
use Rattle.tool_sign.specs.Ports.{over_net}
use Rattle.tool_sign.specs.Tables.{table_header}
use Rattle.tool_words.specs.Rows.{aggregate_words}
use Rattle.tool_aggregate.proofs.serving.serve_table.Goals as goal

pub returns-in-Err-Failed-clause-run : goal.returns-in-Err-Failed-clause-run
returns-in-Err-Failed-clause-run g c =
    let take = c.in-Err-Failed.ensures in
    let failed = ap Err c.in-Err-Failed.field-0-is in
    let net = g.N.Net.state c.args.net.now in
    let unchanged : IsUnchanged (g.S.Store.state c.args.store.now) (g.S.Store.state c.take_disk.new.self) = record { same = take.refused; onward = take.onward } in
    record {
      touched = [];
      ends = no_table (take.cause.rose failed, λ told steady. take.absent told steady failed) (heard_none _ net net refl);
      keeps = keeps_unchanged [] _ _ unchanged;
      ports = net_none net;
    }

pub returns-in-Err-NoMemory-clause-run : goal.returns-in-Err-NoMemory-clause-run
returns-in-Err-NoMemory-clause-run g c =
    let take = c.in-Err-NoMemory.ensures in
    let net = g.N.Net.state c.args.net.now in
    let unchanged : IsUnchanged (g.S.Store.state c.args.store.now) (g.S.Store.state c.take_disk.new.self) = record { same = take.refused; onward = take.onward } in
    record {
      touched = [];
      ends = no_memory [] (heard_none _ net net refl) (All-nil (Stays (from_to (g.S.Store.state c.args.store.now) (g.S.Store.state c.take_disk.new.self))));
      keeps = keeps_unchanged [] _ _ unchanged;
      ports = net_none net;
    }

pub returns-in-Err-clause-run : goal.returns-in-Err-clause-run
returns-in-Err-clause-run g c =
    let state = g.S.Store.state in
    let disks = g.S.Disk in
    let name = c.args.words.now.table.now in
    let load = c.in-Err.ensures in
    let out = c.in-Ok.ensures in
    let refused = table_refused disks.Pages disks.Faults (state c.args.store.now) _ (state c.return_disk.new.self) name c.in-Ok.disk c.in-Err.disk
    out.taken out.onward c.return_disk.ensures.returned c.return_disk.ensures.onward _ (table_header c.args.desk.now.key.now) _ c.in-Err.fault _
    c.table_header-header.ensures c.end_of_slots.ensures load.refused load.unwritten load.succeeds load.cause in
    record {
      touched = name ∷ [];
      ends = not_loaded _ refused.fails (heard_none _ _ _ refl) refused.stays;
      keeps = refused.keeps;
      ports = net_none (g.N.Net.state c.args.net.now);
    }

pub returns-clause-run : goal.returns-clause-run
returns-clause-run g c =
    let state = g.S.Store.state in
    let disks = g.S.Disk in
    let name = c.args.words.now.table.now in
    let desk = c.args.desk.now in
    let out = c.in-Ok.ensures in
    let loaded = subst (λ h. IsLoaded disks.Pages disks.Faults h desk.plan.now c.in-Ok.disk c.in-Ok-load.table) c.table_header-header.ensures c.in-Ok-load.ensures.loaded in
    let old = c.in-Ok-load.table in
    let new = c.serve_net-table.result.0 in
    let served = c.serve_net-table.ensures in
    let round = table_round disks.Pages disks.Faults (table_header desk.key.now) desk.plan.now c.in-Ok.disk c.end.result old new loaded served.onward.name c.end.ensures.disk c.end.ensures.holds
    (state c.args.store.now) _ (state c.return_disk-2.new.self) name out.taken out.onward c.return_disk-2.ensures.returned c.return_disk-2.ensures.onward in
    record {
      touched = name ∷ [];
      ends = ends_whole (aggregate_words c.args.words.now) (desk_state desk) _ _ (over_net (g.N.Net.state c.args.net.now) (g.N.Net.state c.serve_net-table.new.net))
          (cells_run g.X.Cells g.X.Faults c.args.cells.now.items c.serve_net-table.new.cells.items) (new ≡ old) (c.serve_net-table.new.cells.items ≡ c.args.cells.now.items) (table_seen old) (table_seen new) round _ served.ends;
      keeps = round.keeps;
      ports = served.net;
    }

pub return_disk-requires-2 : goal.return_disk-requires-2
return_disk-requires-2 g c =
    let disks = g.S.Disk in
    let name = c.args.words.now.table.now in
    let out = c.in-Ok.ensures in
    let same = same_disk disks.Pages disks.Faults _ _ c.in-Ok.disk c.end.result c.in-Ok-load.table c.serve_net-table.result.0 c.in-Ok-load.ensures.loaded c.serve_net-table.ensures.onward.name
    c.end.ensures.disk in
    record {
      out = λ is_told. out_here _ _ name (disk_seen disks.Pages disks.Faults c.in-Ok.disk) (taken_out _ _ name _ out.taken out.onward) is_told ∙ ap Some same;
    }

pub load-requires : goal.load-requires
load-requires g c = ap (λ header. header.version) c.table_header-header.ensures

pub serve_net-table-requires-clause-plan : goal.serve_net-table-requires-clause-plan
serve_net-table-requires-clause-plan g c κs within = c.in-Ok-load.ensures.loaded.plan_is

pub serve_net-table-requires-clause-cells : goal.serve_net-table-requires-clause-cells
serve_net-table-requires-clause-cells g c κs within = c.requires.cells

pub serve_net-table-requires-clause-many : goal.serve_net-table-requires-clause-many
serve_net-table-requires-clause-many g c κs within = c.requires.many

pub returns-in-Err-Failed-clause-count : goal.returns-in-Err-Failed-clause-count
returns-in-Err-Failed-clause-count g c = refl

pub returns-in-Err-NoMemory-clause-count : goal.returns-in-Err-NoMemory-clause-count
returns-in-Err-NoMemory-clause-count g c = refl

pub returns-in-Err-clause-count : goal.returns-in-Err-clause-count
returns-in-Err-clause-count g c = refl

pub returns-clause-count : goal.returns-clause-count
returns-clause-count g c = c.serve_net-table.ensures.count
