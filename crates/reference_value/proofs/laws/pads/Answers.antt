use Rattle.reference_value.proofs.Pads.{pads}
use Rattle.reference_value.proofs.laws.pads.Goals as goal

pub returns : goal.returns
returns c = pads
