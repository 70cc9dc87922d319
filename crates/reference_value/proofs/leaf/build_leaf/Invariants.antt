use Rattle.coalition_map.specs.Members.{below}
use Rattle.reference_value.specs.Dealing.{dealing_from}
use Rattle.reference_value.proofs.Members.{IsBuilding}
use Rattle.reference_value.proofs.leaf.build_leaf.Given as goal

abbrev pub invariant-trustees : goal.invariant-trustees
invariant-trustees l = IsBuilding (dealing_from l.fn.params l.fn.plan l.fn.id l.fn.seed l.fn.random_key l.fn.keys) l.q (below l.t l.members) l.place l.front l.chains
