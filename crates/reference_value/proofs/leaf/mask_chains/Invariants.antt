use Rattle.reference_value.specs.Masking.{masked_chain}
use Rattle.reference_value.proofs.Parts.{IsMasking}
use Rattle.reference_value.proofs.leaf.mask_chains.Given as goal

abbrev pub invariant-chains : goal.invariant-chains
invariant-chains l = IsMasking (masked_chain l.params l.key l.id l.q l.initial.out) l.initial.out l.size l.i l.out
