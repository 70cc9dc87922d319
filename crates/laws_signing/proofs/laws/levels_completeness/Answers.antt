use Rattle.laws_signing.proofs.Levels.{levels-complete}
use Rattle.laws_signing.proofs.laws.levels_completeness.Goals as goal

pub returns : goal.returns
returns g c = λ words net end d key lower leaf. levels-complete words _ net end d key lower leaf
