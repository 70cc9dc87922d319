use Rattle.std.proofs.Common.{refl}
use Rattle.aggregator_node.specs.Signing.{too_long}
use Rattle.aggregator_node.proofs.Showing.{shows}
use Rattle.aggregator_node.proofs.Signing.{cells-of, leased-as, port-of, refused-as}
use Rattle.aggregator_session.proofs.Signing.{cells-signed, port-signed, signed-accepted}
use Rattle.aggregator_node.proofs.sign.sign_in_turns.Goals as goal

pub returns-then-message-clause-signs : goal.returns-then-message-clause-signs
returns-then-message-clause-signs g c = too_long c.if-message.true refl

pub returns-in-Err-clause-signs : goal.returns-in-Err-clause-signs
returns-in-Err-clause-signs g c =
    refused-as c.if-message.false refl c.of-id.ensures c.in-Err.ensures.turn

pub returns-in-Err-clause-port : goal.returns-in-Err-clause-port
returns-in-Err-clause-port g c = port-of _ c.in-Err.ensures.turn

pub returns-in-Err-clause-cells : goal.returns-in-Err-clause-cells
returns-in-Err-clause-cells g c = cells-of _ _ _ c.in-Err.ensures.turn

pub returns-then-message-clause-shows : goal.returns-then-message-clause-shows
returns-then-message-clause-shows g c =
    shows _ _ _ _ _ _ _ c.requires.ready.idle.2 (returns-then-message-clause-signs g c)

pub returns-in-Err-clause-shows : goal.returns-in-Err-clause-shows
returns-in-Err-clause-shows g c = shows _ _ _ _ _ _ _ c.requires.ready.idle.2 (returns-in-Err-clause-signs g c)

pub returns-then-message-clause-pass : goal.returns-then-message-clause-pass
returns-then-message-clause-pass g c = c.requires.ready.idle

pub returns-in-Err-clause-pass : goal.returns-in-Err-clause-pass
returns-in-Err-clause-pass g c = c.in-Err.ensures.pass

pub returns-clause-pass : goal.returns-clause-pass
returns-clause-pass g c = c.burn_spent.ensures.pass

pub run_on-outcome-requires-clause-leaf : goal.run_on-outcome-requires-clause-leaf
run_on-outcome-requires-clause-leaf g c κs within = c.in-Ok.ensures.within

pub run_on-outcome-requires-clause-id : goal.run_on-outcome-requires-clause-id
run_on-outcome-requires-clause-id g c κs within = c.of-id.ensures

pub run_on-outcome-requires-clause-limit : goal.run_on-outcome-requires-clause-limit
run_on-outcome-requires-clause-limit g c κs within = c.if-message.false

pub run_on-outcome-requires-clause-cells : goal.run_on-outcome-requires-clause-cells
run_on-outcome-requires-clause-cells g c κs within = c.requires.ready.reads

pub burn_spent-requires : goal.burn_spent-requires
burn_spent-requires g c = let e = c.in-Ok.ensures in record { pass = e.pass; within = e.within; leased = e.leased }

pub lease_in_turn-requires : goal.lease_in_turn-requires
lease_in_turn-requires g c = record { pass = c.requires.ready.idle }

pub returns-clause-signs : goal.returns-clause-signs
returns-clause-signs g c =
    leased-as c.signed_with.ensures.answer c.if-message.false c.of-id.ensures c.in-Ok.ensures.turn c.run_on-outcome.ensures.runs.runs c.spent_by.ensures
    c.burn_spent.ensures.turn

pub returns-clause-accepted : goal.returns-clause-accepted
returns-clause-accepted g c =
    signed-accepted c.run_on-outcome.result.outcome c.signed_with.result _ _ _ c.signed_with.ensures.ok c.run_on-outcome.ensures.accepted

pub returns-clause-port : goal.returns-clause-port
returns-clause-port g c =
    port-signed c.run_on-outcome.result.outcome c.args.message.now _ _ c.signed_with.result c.signed_with.ensures.err c.run_on-outcome.ensures.port

pub returns-clause-cells : goal.returns-clause-cells
returns-clause-cells g c =
    cells-signed c.run_on-outcome.result.outcome g.R.Cells g.R.Faults _ _ c.signed_with.result c.signed_with.ensures.err c.run_on-outcome.ensures.cells

pub returns-clause-shows : goal.returns-clause-shows
returns-clause-shows g c = shows _ _ _ _ _ _ _ c.requires.ready.idle.2 (returns-clause-signs g c)
