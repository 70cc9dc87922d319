use Rattle.round_frames.proofs.Writing.{failure-again}
use Rattle.round_frames.proofs.laws.failures_are_read.Goals as goal

pub returns : goal.returns
returns c params failure lt = failure-again params failure lt
