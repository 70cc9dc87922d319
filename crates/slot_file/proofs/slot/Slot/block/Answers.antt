use Rattle.std.proofs.Common.{ℕ, List, sym, ◌∙◌, ap}
use Rattle.slot_file.specs.Copies.{with_part, slot_block}
use Rattle.slot_file.proofs.slot.Slot.block.Goals as goal

pub returns-in-Full : goal.returns-in-Full
unfolding slot_block
returns-in-Full c =
    c.put_part-in-Full-2.ensures.after ∙ ap (λ (l : List ℕ). with_part 40 0xC2 c.in-Full.b l) c.put_part-in-Full.ensures.after ∙ sym (ap slot_block c.in-Full.is)
