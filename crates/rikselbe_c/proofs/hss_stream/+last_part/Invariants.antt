use Rattle.rikselbe_c.proofs.hss_stream.+last_part.Given as goal

abbrev pub decreases-last_part : goal.decreases-last_part
decreases-last_part l = l.below
