use Rattle.reference_value.proofs.Unmasking.{cell-unmasked, chains-unmasked, randomizer-unmasked}
use Rattle.reference_value.proofs.laws.masks_come_off.Goals as goal

pub returns-clause-randomizer : goal.returns-clause-randomizer
returns-clause-randomizer c = randomizer-unmasked

pub returns-clause-cell : goal.returns-clause-cell
returns-clause-cell c = cell-unmasked

pub returns-clause-chains : goal.returns-clause-chains
returns-clause-chains c = chains-unmasked
