use Rattle.coalition_map.specs.MembersInside.{bits_of-member_numbers}
use Rattle.coalition_map.proofs.laws.bits_and_members.Goals as goal

pub returns : goal.returns
returns c = bits_of-member_numbers
