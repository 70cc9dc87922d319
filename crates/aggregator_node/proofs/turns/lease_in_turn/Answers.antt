use Rattle.std.proofs.Common.{Ok, Err, List, sym, subst}
use mathlib.Core.List.{IsPrefix}
use Rattle.aggregator_node.specs.Signing.{asked, no_turn}
use Rattle.leaf_table.specs.Table.{state_of}
use Rattle.leaf_table.specs.declared.lease.Lease.{Lease}
use Rattle.aggregator_session.specs.Tables.{table_seen}
use Rattle.aggregator_node.proofs.Signing.{asks}
use Rattle.aggregator_node.proofs.Turning.{idle-again, idle-given, leases-on, none-taken, sure, took-gave}
use Rattle.aggregator_node.proofs.turns.lease_in_turn.Goals as goal

pub returns-in_default-clause-turn : goal.returns-in_default-clause-turn
returns-in_default-clause-turn g c =
    no_turn (none-taken c.args.lock.now c.args.pass.now c.take_turn.new.pass c.in_default.ensures.worn c.take_turn.ensures.draws c.take_turn.ensures.stays)

pub give-requires-clause-begins : goal.give-requires-clause-begins
give-requires-clause-begins g c =
    let before = state_of c.in-Ok.table in
    let after = state_of c.lease-leased.new.self in
    subst (λ (l : List Lease). IsPrefix l after.entries) (sym c.in-Ok.ensures.taken.log) (leases-on before after c.lease-leased.ensures.event)

pub returns-in-Ok-leased-clause-turn : goal.returns-in-Ok-leased-clause-turn
returns-in-Ok-leased-clause-turn g c =
    let old = c.args.pass.now in
    let mid = c.take_turn.new.pass in
    let new = c.give.new.pass in
    let before = table_seen c.in-Ok.table in
    let after = table_seen c.lease-leased.new.self in
    let turn = took-gave c.args.lock.now old mid new before after c.in-Ok.ensures.taken c.take_turn.ensures.draws c.take_turn.ensures.stays c.give.ensures.gives c.give.ensures.stays (sure c.in-Ok.table) in
    let d = c.in-Ok-leased.ensures in
    asked before after (Ok c.in-Ok-leased.leaf) turn (asks d.event d.within d.leased d.enters)

pub returns-in-Err-clause-turn : goal.returns-in-Err-clause-turn
returns-in-Err-clause-turn g c =
    let old = c.args.pass.now in
    let mid = c.take_turn.new.pass in
    let new = c.give.new.pass in
    let before = table_seen c.in-Ok.table in
    let after = table_seen c.lease-leased.new.self in
    let turn = took-gave c.args.lock.now old mid new before after c.in-Ok.ensures.taken c.take_turn.ensures.draws c.take_turn.ensures.stays c.give.ensures.gives c.give.ensures.stays (sure c.in-Ok.table) in
    let d = c.in-Err.ensures in
    asked before after (Err c.in-Err.fault) turn (asks d.event tt tt d.enters)

pub returns-in_default-clause-pass : goal.returns-in_default-clause-pass
returns-in_default-clause-pass g c =
    idle-again c.args.lock.now c.args.plan.now c.args.pass.now c.take_turn.new.pass c.requires.pass c.take_turn.ensures.stays.same c.in_default.ensures.worn.turn

pub returns-in-Ok-leased-clause-pass : goal.returns-in-Ok-leased-clause-pass
returns-in-Ok-leased-clause-pass g c =
    idle-given c.args.lock.now c.args.plan.now c.args.pass.now c.take_turn.new.pass c.give.new.pass c.requires.pass c.take_turn.ensures.stays c.give.ensures.stays c.give.ensures.gives.turn

pub returns-in-Err-clause-pass : goal.returns-in-Err-clause-pass
returns-in-Err-clause-pass g c =
    idle-given c.args.lock.now c.args.plan.now c.args.pass.now c.take_turn.new.pass c.give.new.pass c.requires.pass c.take_turn.ensures.stays c.give.ensures.stays c.give.ensures.gives.turn
