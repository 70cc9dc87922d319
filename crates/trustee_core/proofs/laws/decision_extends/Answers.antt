use Rattle.trustee_core.proofs.Extending.{decides-extends}
use Rattle.trustee_core.proofs.laws.decision_extends.Goals as goal

pub returns : goal.returns
returns c = decides-extends
