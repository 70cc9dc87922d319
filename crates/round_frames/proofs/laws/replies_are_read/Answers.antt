use Rattle.round_frames.proofs.Replying.{reply-again}
use Rattle.round_frames.proofs.laws.replies_are_read.Goals as goal

pub returns : goal.returns
returns c params head body has is size = reply-again params head body has is size
