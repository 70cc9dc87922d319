use Rattle.std.proofs.Common.{◌≡◌, ◌-◌, ◌*◌, ◌^◌, take}
use Rattle.lms_bytes.specs.Bytes.{joined}
use Rattle.ots_chain.specs.LeafKeyHash.{HasEnds}
use Rattle.reference_value.specs.Dealing.{value_of_seed, values_of_seed}
use Rattle.reference_value.proofs.leaf.write_chains.Given as goal

abbrev pub invariant-chains : goal.invariant-chains
invariant-chains l = record {
  values : take (l.size * l.i) l.out ≡ joined (values_of_seed l.params l.id l.q l.seed) l.i;
  ends : HasEnds l.hash l.params l.id l.q (joined (λ i. value_of_seed l.params l.id l.q l.seed i (2 ^ l.params.w - 1)) l.i);
}
