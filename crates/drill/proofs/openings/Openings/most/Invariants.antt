use Rattle.std.proofs.Common.{◌≡◌, ◌<◌, ◌≤◌}
use Rattle.drill.specs.Openings.{AreSingle}
use Rattle.drill.proofs.openings.Openings.most.Given as goal

abbrev pub invariant-openings : goal.invariant-openings
invariant-openings l = record {
  single : AreSingle l.self.list.items → l.most ≤ 1;
  none : l.i ≡ 0 → l.most ≡ 0;
  some : 0 < l.i → 1 ≤ l.most;
}
