use Rattle.round_frames.proofs.Writing.{request-again}
use Rattle.round_frames.proofs.laws.requests_are_read.Goals as goal

pub returns : goal.returns
returns c bits message lt le = request-again bits message lt le
