use Rattle.std.proofs.Common.{ap, arith, length, length-drop, ◌∙◌}
use Rattle.stream_io.proofs.Pieces.{grown, wrote-then}
use Rattle.stream_io.proofs.sink.write_whole.Goals as goal

pub pieces-preserved : goal.pieces-preserved
pieces-preserved g c =
    let v = c.pieces.invariant in
    let r = c.in_ok-at.ensures in
    let left = ap length c.after.ensures in
    record {
      within = (let size = r.written.size in let w = v.within in grind (arith, length-drop, left, size, w));
      only = wrote-then _ _ _ v.only r.only;
      quiet = r.cause.succeeded ∙ v.quiet;
      steady = r.steady ∙ v.steady;
      room = (let a = r.room in let b = v.room in omega arith);
      wrote = λ told. grown _ _ _ _ _ c.pieces.at c.in_ok-at.field-0 (v.wrote told) c.after.ensures (r.written.wrote (v.only.told ∙ told));
    }
