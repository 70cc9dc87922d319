use Rattle.std.proofs.Common.{◌≡◌, string_bytes}
use Rattle.coalition_map.specs.Members.{below}
use Rattle.tool_base.specs.Ending.{spaced}
use Rattle.tool_base.proofs.unsigned.numbers_of.Given as goal

abbrev pub invariant-members : goal.invariant-members
invariant-members l = string_bytes l.numbers ≡ spaced (below l.member-counter l.members)
