use Rattle.std.proofs.Common.{◌≡◌, ◌+◌, ◌/◌, ◌^◌, length}
use Rattle.merkle_path.specs.Nodes.{candidate_node}
use Rattle.merkle_path.proofs.root.root_from.Given as goal

abbrev pub invariant-levels : goal.invariant-levels
invariant-levels l = record {
  place : l.r ≡ (2 ^ l.params.h + l.q) / 2 ^ l.level;
  value : l.node ≡ candidate_node l.params l.id l.q l.key l.path l.level;
  size : length l.node ≡ l.params.n;
}
