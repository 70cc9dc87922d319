use Rattle.std.proofs.Common.{◌+◌, ◌++◌, ◌∙◌, List, ℕ, ap, sym, subst, string_bytes}
use Rattle.tool_show.specs.SlotLines.{AreSlotLines, more, none}
use Rattle.tool_show.proofs.slot_lines.slot_lines.Goals as goal

pub loop-place-init : goal.loop-place-init
loop-place-init c = subst (AreSlotLines c.args.kind c.args.slots.now 0) (sym c.new-lines.ensures.bytes) none

pub loop-place-preserved : goal.loop-place-preserved
loop-place-preserved c =
    let lines = string_bytes c.loop-place.lines in
    let line = string_bytes c.in_ok-line.line in
    let bytes = c.in_ok-push_str.ensures.bytes ∙ ap (λ (l : List ℕ). lines ++ l) c.as_str.ensures.value in
    subst (AreSlotLines c.args.kind c.args.slots.now (c.loop-place.place + 1)) (sym bytes)
    (more c.loop-place.place lines line c.loop-place.invariant c.in_ok-line.ensures)
