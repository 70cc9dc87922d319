use Rattle.mask_prf.specs.Masks.{chain_mask_of}
use Rattle.reference_value.specs.Masking.{masked_at}
use Rattle.reference_value.proofs.Parts.{IsMasking}
use Rattle.reference_value.proofs.leaf.mask_chain.Given as goal

abbrev pub invariant-steps : goal.invariant-steps
invariant-steps l =
    IsMasking (masked_at l.params.n l.initial.out (chain_mask_of l.params l.key l.id l.q l.i)) l.initial.out l.params.n l.j l.out
