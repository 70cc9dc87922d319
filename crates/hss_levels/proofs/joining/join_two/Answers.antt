use Rattle.hss_levels.proofs.OneLevel.{two-levels}
use Rattle.hss_levels.proofs.joining.join_two.Goals as goal

pub returns-clause-accepted : goal.returns-clause-accepted
returns-clause-accepted c = λ message accepts.
    rw (c.in_ok-key.ensures, c.in_ok-signature.ensures)
    (two-levels c.args.top.now c.args.top_sig.now c.args.low.now c.args.low_sig.now message c.requires accepts)
