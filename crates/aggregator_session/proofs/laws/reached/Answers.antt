use Rattle.aggregator_session.proofs.Reaching.{sign-reached}
use Rattle.aggregator_session.proofs.laws.reached.Goals as goal

pub returns : goal.returns
returns c = sign-reached
