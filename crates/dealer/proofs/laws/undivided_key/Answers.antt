use Rattle.dealer.proofs.Undivided.{accepted_is, public_is, tree_is, undivided}
use Rattle.dealer.proofs.laws.undivided_key.Goals as goal

pub returns-clause-key : goal.returns-clause-key
returns-clause-key c = undivided

pub returns-clause-public : goal.returns-clause-public
returns-clause-public c = public_is

pub returns-clause-tree : goal.returns-clause-tree
returns-clause-tree c = tree_is

pub returns-clause-accepted : goal.returns-clause-accepted
returns-clause-accepted c = accepted_is
