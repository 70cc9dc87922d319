use Rattle.opening_journal.proofs.journal.Journal.open_leaf.Goals as goal

pub enter-requires : goal.enter-requires
enter-requires g c = record { within = c.requires.leaf; sizes = (c.requires.c, c.requires.digest) }

pub returns : goal.returns
returns g c =
    let entered = c.enter.ensures in
    record { event = entered.event; idle = entered.idle; enters = entered.enters }
