use Rattle.std.proofs.Common.{◌∙◌, arith}
use Rattle.disk_trait.proofs.Filled.{fills_named, fills_kept}
use Rattle.disk_trait.proofs.mem_disk.draw_pending.Goals as goal
use Rattle.disk_trait.proofs.mem_disk.draw_pending.Goals.{then-pending-i, else-pending-i}

pub loop-i-preserved : goal.loop-i-preserved
loop-i-preserved c =
    let xs = c.loop-i.bytes in
    let ps = c.args.pending.now in
    elim c.if-pending-i.branch [
      | then-pending-i w ↦
          rw (w.bytes-is, w.generator-is, w.draw.ensures.after, w.draw.ensures.value)
          (fills_named xs ps c.loop-i.i c.loop-i.generator.state (omega arith) (omega arith) w.if-pending-i.true ∙ c.loop-i.invariant)
      | else-pending-i w ↦
          rw (w.bytes-is, w.generator-is) (fills_kept xs ps c.loop-i.i c.loop-i.generator.state (omega arith) (omega arith) w.if-pending-i.false ∙ c.loop-i.invariant)
    ]
