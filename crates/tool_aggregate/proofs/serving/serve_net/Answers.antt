use Rattle.std.proofs.Common.{◌≡◌, ◌≤◌, ◌++◌, ◌∙◌, ℕ, Err, map, refl, sym, ap, subst}
use Rattle.std.proofs.lemmas.List.{length-map}
use Rattle.aggregator_session.specs.Desks.{desk_state}
use Rattle.aggregator_session.specs.Tables.{table_seen}
use Rattle.aggregator_session.proofs.Tasks.{rose-later}
use Rattle.tool_base.proofs.Heard.{heard_none}
use Rattle.tool_base.proofs.Nets.{net_back}
use Rattle.tool_base.specs.Endings.{ending}
use Rattle.tool_aggregate.specs.Serving.{no_memory, no_ports}
use Rattle.tool_aggregate.proofs.Nets.{net_ends, table_still}
use Rattle.tool_base.proofs.Unaccepted.{not_true}
use Rattle.tool_sign.proofs.Overs.{net_same}
use Rattle.tool_sign.specs.Ports.{over_net}
use Rattle.tool_words.specs.Rows.{aggregate_words}
use Rattle.tool_aggregate.proofs.serving.serve_net.Goals as goal

pub returns-in-Err-Failed-clause-ends : goal.returns-in-Err-Failed-clause-ends
returns-in-Err-Failed-clause-ends g c =
    let failed = ap Err c.in-Err-Failed.field-0-is in
    let ports = c.in-Err-Failed.ensures in
    no_ports (refl, refl) (heard_none _ _ _ ports.refused.kept) (ports.port_cause.rose failed) (λ told steady. not_true _ (ports.unoffered told steady failed))

pub returns-in-Err-NoMemory-clause-ends : goal.returns-in-Err-NoMemory-clause-ends
returns-in-Err-NoMemory-clause-ends g c = no_memory (refl, refl) (heard_none _ _ _ c.in-Err-NoMemory.ensures.refused.kept)

pub returns-clause-ends : goal.returns-clause-ends
returns-clause-ends g c =
    let state = g.N.Port.Port.state in
    let ports = c.in-Ok.ports in
    let made = c.in-Ok.ensures.made in
    let onward = c.in-Ok.ensures.onward in
    let serves = c.serve_clients-table.ensures in
    let gathers = c.gather.ensures.kept in
    let after = c.serve_clients-table.new in
    let many = made.many in
    let sizes = length-map ports.items state in
    let asked = c.requires.many in
    let one = c.args.cells.now.ok.0 in
    let two = ports.ok.0 in
    let three = after.cells.ok.0 in
    let four = after.ports.ok.0 in
    let counts = serves.count in
    net_ends g.X.Cells g.X.Faults state (aggregate_words c.args.words.now) (desk_state c.args.desk.now)
    (c.serve_clients-table.result.0 ≡ c.args.table) (after.ports.items ≡ ports.items) (after.cells.items ≡ c.args.cells.now.items)
    (table_seen c.args.table) (table_seen c.serve_clients-table.result.0)
    (over_net (g.N.Net.state c.args.net.now) (g.N.Net.state c.gather.new.self)) ports.items after.ports.items c.args.cells.now.items after.cells.items
    (sym one ∙ asked ∙ sym many ∙ sizes) (sym three ∙ counts.1 ∙ asked ∙ sym many ∙ sizes ∙ sym two ∙ sym counts.0 ∙ four)
    c.serve_clients-table.result.1 (ending c.end_of_service-end.result) many made.offered made.new_ports serves.served
    (λ told. gathers.kept (rw onward.told told) ∙ ap (λ kept. kept ++ map state after.ports.items) made.kept)
    (λ deaf. rose-later _ _ _ onward.port_count (gathers.port_count.rose deaf))
    serves.refused (λ same. ap (map state) same) (rw (← c.deref.ensures.value) c.end_of_service-end.ensures.ends)

pub returns-clause-net : goal.returns-clause-net
returns-clause-net g c =
    let state = g.N.Port.Port.state in
    let ports = c.in-Ok.ports in
    let after = c.serve_clients-table.new in
    let one = length-map ports.items state in
    let two = length-map after.ports.items state in
    let counts = c.serve_clients-table.ensures.count in
    let three = ports.ok.0 in
    let four = after.ports.ok.0 in
    net_back _ _ _ _ _ _ _ c.in-Ok.ensures.made c.in-Ok.ensures.onward (two ∙ sym four ∙ counts.0 ∙ three ∙ sym one) c.gather.ensures.kept c.gather.ensures.onward

pub returns-in-Err-Failed-clause-onward : goal.returns-in-Err-Failed-clause-onward
returns-in-Err-Failed-clause-onward g c = table_still (table_seen c.args.table)

pub returns-in-Err-NoMemory-clause-onward : goal.returns-in-Err-NoMemory-clause-onward
returns-in-Err-NoMemory-clause-onward g c = table_still (table_seen c.args.table)

pub returns-in-Err-Failed-clause-net : goal.returns-in-Err-Failed-clause-net
returns-in-Err-Failed-clause-net g c = net_same _ _ c.in-Err-Failed.ensures.refused c.in-Err-Failed.ensures.onward

pub returns-in-Err-NoMemory-clause-net : goal.returns-in-Err-NoMemory-clause-net
returns-in-Err-NoMemory-clause-net g c = net_same _ _ c.in-Err-NoMemory.ensures.refused c.in-Err-NoMemory.ensures.onward

pub returns-clause-onward : goal.returns-clause-onward
returns-clause-onward g c = c.serve_clients-table.ensures.onward

pub returns-in-Err-Failed-clause-count : goal.returns-in-Err-Failed-clause-count
returns-in-Err-Failed-clause-count g c = refl

pub returns-in-Err-NoMemory-clause-count : goal.returns-in-Err-NoMemory-clause-count
returns-in-Err-NoMemory-clause-count g c = refl

pub returns-clause-count : goal.returns-clause-count
returns-clause-count g c = c.serve_clients-table.ensures.count.1

pub serve_clients-table-requires-clause-plan : goal.serve_clients-table-requires-clause-plan
serve_clients-table-requires-clause-plan g c κs within = c.requires.plan

pub serve_clients-table-requires-clause-cells : goal.serve_clients-table-requires-clause-cells
serve_clients-table-requires-clause-cells g c κs within = c.requires.cells

pub serve_clients-table-requires-clause-ports : goal.serve_clients-table-requires-clause-ports
serve_clients-table-requires-clause-ports g c κs within =
    let ports = c.in-Ok.ports in
    let words = c.args.words.now in
    subst (λ (n : ℕ). (1 ≤ n) × (n ≤ 64)) (sym c.in-Ok.ensures.made.many ∙ length-map ports.items g.N.Port.Port.state ∙ sym ports.ok.0) (words.some_workers, words.few_workers)

pub serve_clients-table-requires-clause-many : goal.serve_clients-table-requires-clause-many
serve_clients-table-requires-clause-many g c κs within =
    let ports = c.in-Ok.ports in
    c.requires.many ∙ sym c.in-Ok.ensures.made.many ∙ length-map ports.items g.N.Port.Port.state ∙ sym ports.ok.0
