use Rattle.std.proofs.Common.{◌≡◌, take}
use Rattle.tool_show.specs.SlotLines.{last_moment}
use Rattle.tool_show.proofs.counts.last_moment.Given as goal

abbrev pub invariant-loop-slot : goal.invariant-loop-slot
invariant-loop-slot l = l.last ≡ last_moment l.kind (take l.slot-index l.slots)
