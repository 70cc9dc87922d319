use Rattle.laws_commands.proofs.Accepting.{said}
use Rattle.laws_commands.proofs.laws.accepted_is_said.Goals as goal

pub returns : goal.returns
returns g c = λ key message signature net_old net_new time later end leaf run has. said _ _ key message signature leaf has end run.run.written run.run.cause
