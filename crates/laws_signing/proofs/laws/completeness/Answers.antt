use Rattle.laws_signing.proofs.Completeness.{complete}
use Rattle.laws_signing.proofs.laws.completeness.Goals as goal

pub returns : goal.returns
returns g c = λ words net end d key message leaf. complete words _ net end d key message leaf
