use Rattle.laws_commands.proofs.Every.{run-answered}
use Rattle.laws_commands.proofs.clients.all_answered.Goals as goal

pub returns : goal.returns
returns g c = λ words net header desk end d key run dealt. run-answered words _ net header desk end d key run dealt
