use Rattle.trustee_node.proofs.worker.serve_link.Goals as goal

pub returns-clause-served : goal.returns-clause-served
returns-clause-served g c = record {
  talk = _;
  conversation = c.answer_asks-served.ensures.conversation;
  hung = c.hang_up.ensures.kept;
}

pub returns-clause-pass : goal.returns-clause-pass
returns-clause-pass g c = c.answer_asks-served.ensures.pass

pub returns-clause-clock : goal.returns-clause-clock
returns-clause-clock g c = c.answer_asks-served.ensures.clock

pub returns-clause-onward : goal.returns-clause-onward
returns-clause-onward g c = c.hang_up.ensures.onward
