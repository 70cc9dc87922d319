use Rattle.trustee_node.proofs.connection.serve_connection.Goals as goal

pub answer_asks-requires : goal.answer_asks-requires
answer_asks-requires g c = rw c.of-2.ensures c.requires

pub returns-clause-conversation : goal.returns-clause-conversation
returns-clause-conversation g c = rw (← c.of-2.ensures) c.answer_asks.ensures.conversation

pub returns-clause-pass : goal.returns-clause-pass
returns-clause-pass g c = rw (← c.of-2.ensures) c.answer_asks.ensures.pass
