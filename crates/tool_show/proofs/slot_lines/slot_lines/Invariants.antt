use Rattle.std.proofs.Common.{string_bytes}
use Rattle.tool_show.specs.SlotLines.{AreSlotLines}
use Rattle.tool_show.proofs.slot_lines.slot_lines.Given as goal

abbrev pub invariant-loop-place : goal.invariant-loop-place
invariant-loop-place l = AreSlotLines l.kind l.slots l.place (string_bytes l.lines)
