use Rattle.coalition_map.proofs.CoalitionLaws.{coalition-distinct}
use Rattle.coalition_map.proofs.laws.one_number_each.Goals as goal

pub returns : goal.returns
returns c = coalition-distinct
