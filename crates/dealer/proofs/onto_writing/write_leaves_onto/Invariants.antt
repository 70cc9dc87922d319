use Rattle.std.proofs.Common.{◌≡◌, ◌+◌, ◌*◌, ◌++◌, IsTrue, take}
use Rattle.disk_trait.specs.Gate.{StaysShut}
use Rattle.disk_trait.specs.SameDisk.{SameDisk}
use Rattle.lms_bytes.specs.Bytes.{joined}
use Rattle.reference_value.specs.Dealing.{leaf_part}
use Rattle.dealer.specs.Material.{dealing_with}
use Rattle.dealer.specs.Runs.{dealt_leaf_key}
use Rattle.dealer.specs.Told.{told_parts}
use Rattle.dealer.proofs.onto_writing.write_leaves_onto.Given as goal

-- the parts so far are written, and were told of
abbrev pub invariant-parts : goal.invariant-parts
invariant-parts g l = record {
  keys : take (l.width * l.i) l.keys ≡ joined (λ k. joined (λ j. dealt_leaf_key (dealing_with l.material) (k * l.count + j)) l.count) l.i;
  told : l.progress ≡ told_parts g.P.Progress.told l.count l.all l.i l.initial.progress;
  bytes : IsTrue (g.D.Pages.told l.initial.disk) → g.D.Pages.reads l.disk ≡ g.D.Pages.reads l.initial.disk ++ joined (leaf_part (dealing_with l.material)) (l.i * l.count);
  shut : StaysShut g.D.Pages l.initial.disk l.disk;
  faults : g.D.Faults.count l.disk ≡ g.D.Faults.count l.initial.disk;
  stays : SameDisk g.D.Pages g.D.Faults l.initial.disk l.disk;
}
