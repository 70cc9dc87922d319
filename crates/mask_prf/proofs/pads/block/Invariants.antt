use Rattle.mask_prf.proofs.Blocks.{IsFilling}
use Rattle.mask_prf.proofs.pads.block.Given as goal

abbrev pub invariant-bytes : goal.invariant-bytes
invariant-bytes l = IsFilling l.key l.out l.pad l.i
