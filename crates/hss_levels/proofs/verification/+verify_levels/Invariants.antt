use Rattle.hss_levels.proofs.verification.+verify_levels.Given as goal

abbrev pub decreases-verify_levels : goal.decreases-verify_levels
decreases-verify_levels l = l.below
