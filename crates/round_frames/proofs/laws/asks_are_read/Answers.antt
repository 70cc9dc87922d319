use Rattle.round_frames.proofs.Writing.{ask-again}
use Rattle.round_frames.proofs.laws.asks_are_read.Goals as goal

pub returns : goal.returns
returns c params ask message is = ask-again params ask message is
