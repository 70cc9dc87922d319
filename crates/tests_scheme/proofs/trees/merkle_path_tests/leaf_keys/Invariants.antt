use Rattle.std.proofs.Common.{◌≡◌, length}
use Rattle.std.specs.Prelude.{All}
use Rattle.tests_scheme.proofs.trees.merkle_path_tests.leaf_keys.Given as goal

abbrev pub invariant-loop-q : goal.invariant-loop-q
invariant-loop-q l = All (λ key. length key ≡ l.n) l.keys
