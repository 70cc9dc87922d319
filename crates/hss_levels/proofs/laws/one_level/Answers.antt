use Rattle.hss_levels.proofs.OneLevel.{one-level}
use Rattle.hss_levels.proofs.laws.one_level.Goals as goal

pub returns : goal.returns
returns c = one-level
