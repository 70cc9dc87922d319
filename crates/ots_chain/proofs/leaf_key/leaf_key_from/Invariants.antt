use Rattle.std.specs.Prelude.{◌-◌, ◌^◌, ◌*◌}
use Rattle.lms_bytes.specs.Bytes.{joined, bytes_at}
use Rattle.lms_bytes.specs.Digits.{digit_of}
use Rattle.ots_chain.specs.Chains.{steps}
use Rattle.ots_chain.specs.LeafKeyHash.{HasEnds}
use Rattle.ots_chain.proofs.leaf_key.leaf_key_from.Given as goal

abbrev pub invariant-chains : goal.invariant-chains
invariant-chains l = HasEnds l.hash l.params l.id l.q (joined (λ i. let digit = digit_of l.params l.digest i in steps l.params l.id l.q i digit (2 ^ l.params.w - 1 - digit) (bytes_at l.chains (l.params.n * i) l.params.n)) l.i)
