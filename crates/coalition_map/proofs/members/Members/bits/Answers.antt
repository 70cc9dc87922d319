use Rattle.std.proofs.Common.{sym}
use Rattle.coalition_map.specs.MembersInside.{bits_of-member_numbers}
use Rattle.coalition_map.proofs.members.Members.bits.Goals as goal

pub returns-clause-value : goal.returns-clause-value
returns-clause-value c = rw (← c.self.view_is) (sym (bits_of-member_numbers _ c.self.invariant))
