use Rattle.aggregator_session.proofs.Writing.{sign-written}
use Rattle.aggregator_session.proofs.laws.written.Goals as goal

pub returns : goal.returns
returns c = sign-written
