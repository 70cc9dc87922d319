use Rattle.std.proofs.Common.{rules}
use Rattle.tool_base.specs.World.{from_to}
use Rattle.tool_sign.proofs.Signs.{viewed_to}
use Rattle.tool_sign.specs.Ports.{over_net}
use Rattle.tool_sign.proofs.task.sign_task.Goals as goal

pub sign_with_table-ended-requires-clause-cells : goal.sign_with_table-ended-requires-clause-cells
sign_with_table-ended-requires-clause-cells g c =
    let set = c.new-cells.ensures.set in
    let plan = c.new-cells.ensures.plan in
    search rules

pub returns-clause-run : goal.returns-clause-run
returns-clause-run g c =
    let cells = c.new-cells.ensures in
    viewed_to g.V.Pages g.V.Faults c.args.files.now c.args.header.now c.args.task.now.addresses.items c.args.task.now.members c.args.task.now.message.items c.args.view c.end.result _ _ _ _ _ _
    cells.set cells.plan cells.pages c.end.ensures c.deref.ensures.value c.deref-2.ensures.value c.args.table.now
    (from_to (g.S.Store.state c.args.store.now) (g.S.Store.state c.sign_with_table-ended.new.store)) (over_net (g.N.Net.state c.args.net.now) (g.N.Net.state c.sign_with_table-ended.new.net)) _ _
    c.sign_with_table-ended.result.session c.signed_by-outcome.ensures.answer c.sign_with_table-ended.ensures.run
