use Rattle.std.proofs.Common.{List, sym, subst}
use mathlib.Core.List.{IsPrefix}
use Rattle.aggregator_node.specs.Signing.Burning.{asked, no_turn}
use Rattle.leaf_table.specs.Table.{state_of}
use Rattle.leaf_table.specs.declared.lease.Lease.{Lease}
use Rattle.aggregator_session.specs.Tables.{table_seen}
use Rattle.aggregator_session.proofs.Signing.{entered-as}
use Rattle.lms_bytes.specs.MessageId.{message_id_bytes}
use Rattle.aggregator_node.proofs.Keeping.{kept}
use Rattle.aggregator_node.proofs.Turning.{burns-on, idle-again, idle-given, none-taken, one_lease, sure, took-gave}
use Rattle.aggregator_node.proofs.turns.burn_in_turn.Goals as goal

pub returns-in_default-clause-turn : goal.returns-in_default-clause-turn
returns-in_default-clause-turn g c =
    no_turn c.args.member (none-taken c.args.lock.now c.args.pass.now c.take_turn.new.pass c.in_default.ensures.worn c.take_turn.ensures.draws c.take_turn.ensures.stays)

pub burn-requires-clause-leased : goal.burn-requires-clause-leased
burn-requires-clause-leased g c =
    kept c.args.pass.now.log (state_of c.in-Ok.table).entries c.args.leaf (message_id_bytes c.args.id.now) c.in-Ok.ensures.taken.begins (one_lease c.in-Ok.table)
    c.requires.leased

pub give-requires-clause-begins : goal.give-requires-clause-begins
give-requires-clause-begins g c =
    let before = state_of c.in-Ok.table in
    let after = state_of c.burn.new.self in
    subst (λ (l : List Lease). IsPrefix l after.entries) (sym c.in-Ok.ensures.taken.log) (burns-on before after c.burn.ensures.event)

pub returns-clause-turn : goal.returns-clause-turn
returns-clause-turn g c =
    let old = c.args.pass.now in
    let mid = c.take_turn.new.pass in
    let new = c.give.new.pass in
    let before = table_seen c.in-Ok.table in
    let after = table_seen c.burn.new.self in
    let turn = took-gave c.args.lock.now old mid new before after c.in-Ok.ensures.taken c.take_turn.ensures.draws c.take_turn.ensures.stays c.give.ensures.gives c.give.ensures.stays (sure c.in-Ok.table) in
    let d = c.burn.ensures in
    asked c.args.member before after turn (record { answer = c.burn.result; event = d.event; entered = entered-as d.enters })

pub returns-in_default-clause-pass : goal.returns-in_default-clause-pass
returns-in_default-clause-pass g c =
    idle-again c.args.lock.now c.args.plan.now c.args.pass.now c.take_turn.new.pass c.requires.pass c.take_turn.ensures.stays.same c.in_default.ensures.worn.turn

pub returns-clause-pass : goal.returns-clause-pass
returns-clause-pass g c =
    idle-given c.args.lock.now c.args.plan.now c.args.pass.now c.take_turn.new.pass c.give.new.pass c.requires.pass c.take_turn.ensures.stays c.give.ensures.stays c.give.ensures.gives.turn
