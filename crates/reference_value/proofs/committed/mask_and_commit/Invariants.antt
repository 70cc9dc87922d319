use Rattle.coalition_map.specs.Members.{below}
use Rattle.reference_value.specs.Committing.{member_mask}
use Rattle.reference_value.proofs.Committing.{IsCommitting}
use Rattle.reference_value.proofs.committed.mask_and_commit.Given as goal

abbrev pub invariant-trustees : goal.invariant-trustees
invariant-trustees l = IsCommitting (member_mask l.leaf l.value) l.initial.out (below l.t l.leaf.members) l.place l.out l.commits
