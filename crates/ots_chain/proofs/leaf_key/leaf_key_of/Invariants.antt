use Rattle.std.specs.Prelude.{◌-◌, ◌^◌}
use Rattle.lms_bytes.specs.Bytes.{joined}
use Rattle.ots_chain.specs.Chains.{steps, secret_of}
use Rattle.ots_chain.specs.LeafKeyHash.{HasEnds}
use Rattle.ots_chain.proofs.leaf_key.leaf_key_of.Given as goal

abbrev pub invariant-chains : goal.invariant-chains
invariant-chains l = HasEnds l.hash l.params l.id l.q (joined (λ i. steps l.params l.id l.q i 0 (2 ^ l.params.w - 1) (secret_of l.params l.id l.q i l.seed)) l.i)
