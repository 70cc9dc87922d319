use Rattle.std.proofs.Common.{◌≡◌, ◌+◌, ◌≤◌, length}
use Rattle.coalition_map.specs.Members.{below}
use Rattle.reference_value.proofs.layout.rank.Given as goal

-- the members before this trustee are counted
abbrev pub invariant-others : goal.invariant-others
invariant-others l = record {
  value : l.before ≡ length (below l.other l.members);
  small : l.before + 1 ≤ l.other;
}
