use Rattle.std.proofs.Common.{◌<◌, length, arith, refl}
use Rattle.std.proofs.lemmas.List.{take_more_set}
use Rattle.lms_bytes.proofs.Xor.{xor_take_more}
use Rattle.lms_bytes.proofs.val.write_xor.Goals as goal

pub loop-i-preserved : goal.loop-i-preserved
loop-i-preserved c =
    let i = c.loop-i.i in
    let next = xor_take_more i c.args.left.now c.args.right.now (omega arith) (omega arith) in
    let inside : i < length c.loop-i.out = omega arith in
    rw (take_more_set, c.loop-i.invariant, next) refl
