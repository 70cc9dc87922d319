use Rattle.aggregator_node.proofs.client.write_outcome.Goals as goal

pub returns-in-Err-clause-wrote : goal.returns-in-Err-clause-wrote
returns-in-Err-clause-wrote g c = λ told. rw c.in-Err.is (rw c.failure_of.ensures at (c.write_failure.ensures.wrote told))

pub returns-in-Err-clause-succeeds : goal.returns-in-Err-clause-succeeds
returns-in-Err-clause-succeeds g c = rw c.in-Err.is c.write_failure.ensures.succeeds

pub returns-in-Err-clause-room : goal.returns-in-Err-clause-room
returns-in-Err-clause-room g c = rw c.in-Err.is c.write_failure.ensures.room
