use Rattle.laws_commands.proofs.Answered.{request-complete}
use Rattle.laws_commands.proofs.clients.answered.Goals as goal

pub returns : goal.returns
returns g c = λ words header desk d key place old new request dealt fits signed well. request-complete words _ d key header desk place dealt old new request fits signed well
