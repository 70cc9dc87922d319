use Rattle.share_blame.proofs.Committed.{cell-committed, length-commitments, random-committed}
use Rattle.share_blame.proofs.laws.commitments_at_places.Goals as goal

pub returns-clause-all : goal.returns-clause-all
returns-clause-all c = length-commitments

pub returns-clause-randomizer : goal.returns-clause-randomizer
returns-clause-randomizer c = random-committed

pub returns-clause-cell : goal.returns-clause-cell
returns-clause-cell c = cell-committed
