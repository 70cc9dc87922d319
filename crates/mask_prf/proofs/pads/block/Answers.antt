use Rattle.std.proofs.Common.{◌≡◌, length, arith}
use Rattle.mask_prf.proofs.Blocks.{filling_more, filled}
use Rattle.mask_prf.proofs.pads.block.Goals as goal

pub bytes-preserved : goal.bytes-preserved
bytes-preserved c = filling_more c.args.key.now c.bytes.out c.args.pad c.bytes.i (omega arith) (omega arith) c.bytes.invariant

pub returns : goal.returns
returns c =
    let all : c.bytes.i ≡ length c.args.key.now = omega arith in
    filled c.args.key.now c.bytes.out c.args.pad (omega arith) (rw all at c.bytes.invariant)
