use Rattle.drill_trustees.proofs.living.load.Goals as goal

pub returns-clause-leaves : goal.returns-clause-leaves
returns-clause-leaves c = λ q within.
    let leaves = rw c.in-Some.is at c.in_ok-journal.ensures.leaves in
    rw c.new.ensures.journal (leaves q within)
