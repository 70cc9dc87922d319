use Rattle.std.proofs.Common.{◌≡◌, refl, arith}
use Rattle.std.proofs.lemmas.List.{length-map}
use Rattle.aggregator_session.specs.Desks.{desk_state}
use Rattle.aggregator_session.specs.Tables.{table_seen}
use Rattle.stream_io.specs.declared.call_fault.CallFault.TheVariants.{Failed}
use Rattle.tool_sign.specs.Ports.{over_net, signing_of}
use Rattle.tool_sign.specs.Signs.{answer_in}
use Rattle.tool_sign.proofs.Overs.{cells_same, failed_as, net_same, never_failed, no_port_had, none_had, port_back, port_over, table_same}
use Rattle.tool_sign.proofs.Ports.{unread_as}
use Rattle.tool_sign.proofs.session.sign_over_net.Goals as goal

pub returns-in-Err-Failed-clause-ends : goal.returns-in-Err-Failed-clause-ends
returns-in-Err-Failed-clause-ends g c =
    let failed = failed_as _ _ _ c.in-Err-Failed.field-0-is in
    let ports = c.in-Err-Failed.ensures in
    no_port_had (signing_of g.R.Cells g.R.Faults c.args.desk.now c.args.cells.now c.args.cells.now c.args.members c.args.message.now) (c.args.table.now ≡ c.args.table.now)
    (table_seen c.args.table.now) (table_seen c.args.table.now) (over_net (g.N.Net.state c.args.net.now) (g.N.Net.state c.ports.new.self)) c.not_begun.result.outcome c.not_begun.result.session
    c.not_begun.ensures.0 c.not_begun.ensures.1 refl refl ports.refused (ports.port_cause.rose failed) (λ told steady. ports.unoffered told steady failed tt)

pub returns-in-Err-Failed-clause-table : goal.returns-in-Err-Failed-clause-table
returns-in-Err-Failed-clause-table g c = table_same c.args.table.now

pub returns-in-Err-Failed-clause-net : goal.returns-in-Err-Failed-clause-net
returns-in-Err-Failed-clause-net g c = net_same (g.N.Net.state c.args.net.now) (g.N.Net.state c.ports.new.self) c.in-Err-Failed.ensures.refused c.in-Err-Failed.ensures.onward

pub returns-in-Err-Failed-clause-cells : goal.returns-in-Err-Failed-clause-cells
returns-in-Err-Failed-clause-cells g c = cells_same g.R.Cells g.R.Faults c.args.cells.now

pub returns-in-Err-NoMemory-clause-ends : goal.returns-in-Err-NoMemory-clause-ends
returns-in-Err-NoMemory-clause-ends g c =
    none_had (signing_of g.R.Cells g.R.Faults c.args.desk.now c.args.cells.now c.args.cells.now c.args.members c.args.message.now) (c.args.table.now ≡ c.args.table.now)
    (table_seen c.args.table.now) (table_seen c.args.table.now) (over_net (g.N.Net.state c.args.net.now) (g.N.Net.state c.ports.new.self))
    c.not_begun-in-Err-NoMemory.result.outcome c.not_begun-in-Err-NoMemory.result.session
    c.not_begun-in-Err-NoMemory.ensures.0 c.not_begun-in-Err-NoMemory.ensures.1 refl refl c.in-Err-NoMemory.ensures.refused

pub returns-in-Err-NoMemory-clause-table : goal.returns-in-Err-NoMemory-clause-table
returns-in-Err-NoMemory-clause-table g c = table_same c.args.table.now

pub returns-in-Err-NoMemory-clause-net : goal.returns-in-Err-NoMemory-clause-net
returns-in-Err-NoMemory-clause-net g c = net_same (g.N.Net.state c.args.net.now) (g.N.Net.state c.ports.new.self) c.in-Err-NoMemory.ensures.refused c.in-Err-NoMemory.ensures.onward

pub returns-in-Err-NoMemory-clause-cells : goal.returns-in-Err-NoMemory-clause-cells
returns-in-Err-NoMemory-clause-cells g c = cells_same g.R.Cells g.R.Faults c.args.cells.now

pub index_mut-requires : goal.index_mut-requires
index_mut-requires g c =
    let many = c.in-Ok.ensures.made.many in
    let sizes = length-map c.in-Ok.ports.items g.N.Port.Port.state in
    let counted = c.in-Ok.ports.ok.0 in
    omega (arith, many, sizes, counted)

pub returns-clause-ends : goal.returns-clause-ends
returns-clause-ends g c =
    let ports = c.in-Ok.ensures in
    let leased = c.run_leased-outcome.ensures in
    port_over g.N.Port.Port.state (g.N.Net.state c.args.net.now) (g.N.Net.state c.ports.new.self) (g.N.Net.state c.gather.new.self) c.in-Ok.ports.items c.run_leased-outcome.new.port
    c.index_mut.result.now (signing_of g.R.Cells g.R.Faults c.args.desk.now c.args.cells.now c.run_leased-outcome.new.cells c.args.members c.args.message.now)
    (c.run_leased-outcome.new.table ≡ c.args.table.now) (table_seen c.args.table.now) (table_seen c.run_leased-outcome.new.table)
    c.run_leased-outcome.result.outcome c.run_leased-outcome.result.session (answer_in c.answer_of.result)
    c.index_mut.ensures.value ports.made ports.onward (ports.cause.same (never_failed _ c.in-Ok.ports Failed)) (ports.port_cause.same (never_failed _ c.in-Ok.ports Failed)) c.gather.ensures.kept
    leased.signs leased.accepted leased.port
    (unread_as g.R.Cells g.R.Faults c.args.cells.now c.run_leased-outcome.new.cells (desk_state c.args.desk.now) c.args.members c.args.message.now c.run_leased-outcome.result.outcome leased.cells)
    c.answer_of.ensures

pub returns-clause-table : goal.returns-clause-table
returns-clause-table g c = c.run_leased-outcome.ensures.table

pub returns-clause-net : goal.returns-clause-net
returns-clause-net g c =
    port_back g.N.Port.Port.state (g.N.Net.state c.args.net.now) (g.N.Net.state c.ports.new.self) (g.N.Net.state c.gather.new.self) c.in-Ok.ports.items c.run_leased-outcome.new.port
    c.in-Ok.ensures.made c.in-Ok.ensures.onward c.gather.ensures.kept c.gather.ensures.onward

pub returns-clause-cells : goal.returns-clause-cells
returns-clause-cells g c = c.run_leased-outcome.ensures.cells.stays
