use Rattle.std.proofs.Common.{◌≡◌, ◌*◌, take}
use Rattle.lms_bytes.specs.Bytes.{joined}
use Rattle.merkle_path.specs.Tree.{path_node_at}
use Rattle.merkle_path.proofs.tree.Tree.write_path.Given as goal

-- the nodes of the levels below this one are written
abbrev pub invariant-levels : goal.invariant-levels
invariant-levels l = take (l.self.n * l.level) l.out ≡ joined (path_node_at l.self l.q) l.level
