use Rattle.std.proofs.Common.{◌≡◌, ◌+◌, ◌*◌, take}
use Rattle.std.specs.Prelude.{is_some}
use Rattle.lms_bytes.specs.Bytes.{joined}
use Rattle.reference_value.specs.Dealing.{leaf_part}
use Rattle.dealer.specs.Runs.{dealt_leaf_key, leaf_asked}
use Rattle.dealer.specs.Material.{dealing_with}
use Rattle.dealer.specs.Told.{told_parts}
use Rattle.dealer.proofs.beside.write_parts.Given as goal

-- the parts so far are written, and were told of
abbrev pub invariant-parts : goal.invariant-parts
invariant-parts g l = record {
  leaves : take (l.size * l.i) l.out ≡ joined (λ k. joined (λ j. leaf_part (dealing_with l.material) (k * l.count + j)) l.count) l.i;
  commits : take (l.row * l.i) l.commits ≡ joined (λ k. joined (λ j. leaf_asked (is_some l.material.macs) (dealing_with l.material) (k * l.count + j)) l.count) l.i;
  keys : take (l.width * l.i) l.keys ≡ joined (λ k. joined (λ j. dealt_leaf_key (dealing_with l.material) (k * l.count + j)) l.count) l.i;
  told : l.progress ≡ told_parts g.P.Progress.told l.count l.all l.i l.initial.progress;
}
