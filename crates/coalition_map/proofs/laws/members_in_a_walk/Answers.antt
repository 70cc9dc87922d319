use Rattle.std.proofs.Common.{arith}
use Rattle.coalition_map.proofs.MemberLaws.{below-none, below-more_in, below-more_out, below-all}
use Rattle.coalition_map.proofs.laws.members_in_a_walk.Goals as goal

pub returns-clause-start : goal.returns-clause-start
returns-clause-start c = λ e l asc. below-none 1 e 1 l asc (omega arith)

pub returns-clause-member : goal.returns-clause-member
returns-clause-member c = below-more_in

pub returns-clause-other : goal.returns-clause-other
returns-clause-other c = below-more_out

pub returns-clause-end : goal.returns-clause-end
returns-clause-end c = λ a e l asc. below-all a e e l asc (omega arith)
