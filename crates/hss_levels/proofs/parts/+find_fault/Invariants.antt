use Rattle.hss_levels.proofs.parts.+find_fault.Given as goal

abbrev pub decreases-find_fault : goal.decreases-find_fault
decreases-find_fault l = l.below
