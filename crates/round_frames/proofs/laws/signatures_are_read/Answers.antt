use Rattle.round_frames.proofs.Writing.{signature-again}
use Rattle.round_frames.proofs.laws.signatures_are_read.Goals as goal

pub returns : goal.returns
returns c params bytes size = signature-again params bytes size
