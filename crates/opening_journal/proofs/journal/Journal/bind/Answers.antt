use Rattle.opening_journal.proofs.journal.Journal.bind.Goals as goal

pub enter-requires : goal.enter-requires
enter-requires g c = record { within = c.requires; sizes = tt }

pub returns : goal.returns
returns g c =
    let entered = c.enter.ensures in
    record { event = entered.event; idle = entered.idle; enters = entered.enters }
