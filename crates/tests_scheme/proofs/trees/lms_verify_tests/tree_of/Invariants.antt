use Rattle.std.proofs.Common.{◌≡◌, length}
use Rattle.std.specs.Prelude.{All}
use Rattle.tests_scheme.proofs.trees.lms_verify_tests.tree_of.Given as goal

abbrev pub invariant-loop-q : goal.invariant-loop-q
invariant-loop-q l = All (λ value. length value ≡ l.key.params.n) l.leaf_keys
