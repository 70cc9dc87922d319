use Rattle.lms_verify.proofs.Signed.{accepted}
use Rattle.lms_verify.proofs.laws.signature_accepted.Goals as goal

pub returns : goal.returns
returns c = accepted
