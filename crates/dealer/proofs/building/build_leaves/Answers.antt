use Rattle.std.proofs.Common.{◌∙◌}
use Rattle.dealer.proofs.Built.{rows-built}
use Rattle.dealer.proofs.building.build_leaves.Goals as goal

pub write_leaves-requires : goal.write_leaves-requires
write_leaves-requires c = rw (c.deref_mut.ensures.value, c.deref_mut-2.ensures.value, c.deref_mut-3.ensures.value) c.in_ok-rows.ensures

pub returns : goal.returns
returns c =
    rows-built c.in_ok-rows.rows c.write_leaves.ensures (c.write_leaves.auto.out ∙ c.deref_mut.ensures.len)
    (c.write_leaves.auto.file ∙ c.deref_mut-2.ensures.len) (c.write_leaves.auto.keys ∙ c.deref_mut-3.ensures.len)
