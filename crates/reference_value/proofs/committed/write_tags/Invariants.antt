use Rattle.coalition_map.specs.Members.{below}
use Rattle.reference_value.specs.Committing.{member_tag}
use Rattle.reference_value.proofs.Committing.{IsWriting}
use Rattle.reference_value.proofs.committed.write_tags.Given as goal

abbrev pub invariant-trustees : goal.invariant-trustees
invariant-trustees l = IsWriting (member_tag l.leaf l.c) (below l.t l.leaf.members) l.place l.out
