use Rattle.std.proofs.Common.{subst}
use Rattle.leaf_table.specs.Index.{WasIndex}
use Rattle.slot_file.specs.Cache.{state_of}
use Rattle.slot_file.specs.declared.slot.Slot.{Slot}
use Rattle.slot_file.specs.declared.slot.Slot.TheVariants.{Half}
use Rattle.leaf_table.proofs.index.LeaseIndex.enter.Goals as goal

pub returns-in-Half-Full : goal.returns-in-Half-Full
returns-in-Half-Full g c =
    let plan = c.args.plan.now in
    let self = c.args.self.now in
    let slots = (state_of c.args.slots.now).slots in
    c.unlist.ensures _ _ _ slots
    (subst (λ (after : Slot). WasIndex plan self c.args.leaf (Half c.in-Half-Full.id) after slots) c.in-Half-Full.is-1
    (subst (λ (before : Slot). WasIndex plan self c.args.leaf before c.args.after.now slots) c.in-Half-Full.is-0 c.requires.index))
