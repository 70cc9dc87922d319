use Rattle.std.proofs.Common.{◌≡◌, ◌+◌, ◌*◌, length, take}
use Rattle.lms_bytes.specs.Bytes.{joined}
use Rattle.reference_value.specs.Dealing.{value_of_seed}
use Rattle.reference_value.proofs.leaf.write_chain.Given as goal

abbrev pub invariant-steps : goal.invariant-steps
invariant-steps l = record {
  length : length l.value ≡ l.params.n;
  value : l.value ≡ value_of_seed l.params l.id l.q l.seed l.i l.j;
  front : take (l.params.n * (l.j + 1)) l.out ≡ joined (value_of_seed l.params l.id l.q l.seed l.i) (l.j + 1);
}
