use Rattle.std.proofs.Common.{◌≡◌, take}
use Rattle.lms_bytes.specs.Bytes.{xor}
use Rattle.lms_bytes.proofs.val.write_xor.Given as goal

abbrev pub invariant-loop-i : goal.invariant-loop-i
invariant-loop-i l = take l.i l.out ≡ xor (take l.i l.left) (take l.i l.right)
