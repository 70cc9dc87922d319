use Rattle.drill.proofs.Seated.{loaded}
use Rattle.drill.proofs.events.restarted.Goals as goal

pub returns-clause-good : goal.returns-clause-good
returns-clause-good c = λ own good.
    loaded c.args.desk.now own c.args.drill _ good c.in_ok-restarted.ensures.shares c.in_ok-restarted.ensures.leaves
