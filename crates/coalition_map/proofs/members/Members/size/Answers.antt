use Rattle.std.proofs.Common.{sym}
use Rattle.coalition_map.proofs.MemberLaws.{length-member_numbers}
use Rattle.coalition_map.proofs.members.Members.size.Goals as goal

pub returns-clause-number : goal.returns-clause-number
returns-clause-number c = rw (← c.self.view_is) (sym (length-member_numbers _ c.self.invariant))
