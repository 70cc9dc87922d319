use Rattle.reference_value.proofs.Reference.{cell_in-reference, length-leaf_part, length-reference, randomizer_in-reference, tag_in-reference}
use Rattle.reference_value.proofs.laws.values_of_reference.Goals as goal

pub returns-clause-leaf : goal.returns-clause-leaf
returns-clause-leaf c = length-leaf_part

pub returns-clause-all : goal.returns-clause-all
returns-clause-all c = length-reference

pub returns-clause-randomizer : goal.returns-clause-randomizer
returns-clause-randomizer c = randomizer_in-reference

pub returns-clause-tag : goal.returns-clause-tag
returns-clause-tag c = tag_in-reference

pub returns-clause-cell : goal.returns-clause-cell
returns-clause-cell c = cell_in-reference
