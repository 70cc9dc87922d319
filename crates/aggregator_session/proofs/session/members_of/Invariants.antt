use Rattle.std.proofs.Common.{◌≡◌}
use Rattle.coalition_map.specs.Members.{below}
use Rattle.aggregator_session.proofs.session.members_of.Given as goal

abbrev pub invariant-trustees : goal.invariant-trustees
invariant-trustees l = l.list.items ≡ below l.t l.members
