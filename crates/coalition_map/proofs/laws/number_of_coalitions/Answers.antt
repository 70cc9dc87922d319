use Rattle.coalition_map.proofs.CoalitionLaws.{count_of-is}
use Rattle.coalition_map.proofs.laws.number_of_coalitions.Goals as goal

pub returns : goal.returns
returns c = count_of-is
