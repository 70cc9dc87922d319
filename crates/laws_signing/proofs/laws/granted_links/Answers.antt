use Rattle.laws_signing.proofs.Grants.{trustee-granted}
use Rattle.laws_signing.proofs.laws.granted_links.Goals as goal

pub returns : goal.returns
returns c = λ d key message leaf share tag more talk dealing own limit leaf_is of quiet bytes. trustee-granted d key message leaf share tag dealing own limit leaf_is of talk more quiet bytes
