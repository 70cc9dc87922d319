use Rattle.std.proofs.Common.{◌≡◌, ◌+◌, ◌*◌, take}
use Rattle.std.specs.Prelude.{is_some}
use Rattle.lms_bytes.specs.Bytes.{joined}
use Rattle.reference_value.specs.Dealing.{leaf_part}
use Rattle.dealer.specs.Runs.{dealt_leaf_key, leaf_asked}
use Rattle.dealer.specs.Material.{dealing_with}
use Rattle.dealer.proofs.writing.write_run.Given as goal

abbrev pub invariant-leaves : goal.invariant-leaves
invariant-leaves l = record {
  leaves : take (l.size * l.i) l.out ≡ joined (λ k. leaf_part (dealing_with l.material) (l.run.first + k)) l.i;
  commits : take (l.row * l.i) l.commits ≡ joined (λ k. leaf_asked (is_some l.material.macs) (dealing_with l.material) (l.run.first + k)) l.i;
  keys : take (l.material.params.n * l.i) l.keys ≡ joined (λ k. dealt_leaf_key (dealing_with l.material) (l.run.first + k)) l.i;
}
