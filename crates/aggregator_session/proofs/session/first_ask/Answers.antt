use Rattle.aggregator_session.proofs.Frames.{any-digest}
use Rattle.aggregator_session.proofs.session.first_ask.Goals as goal

pub returns-clause-ask : goal.returns-clause-ask
returns-clause-ask g c = any-digest _ _ _ c.requires.round c.in-Ok.ensures.ask

pub returns-clause-cells : goal.returns-clause-cells
returns-clause-cells g c = (c.in-Ok.ensures.first c.requires.round).1
