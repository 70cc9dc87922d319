use Rattle.std.proofs.Common.{◌≡◌, length}
use Rattle.std.proofs.lemmas.List.Elements.{All-replicate}
use Rattle.tests_scheme.proofs.trees.merkle_path_tests.leaf_keys.Goals as goal

pub loop-q-init : goal.loop-q-init
loop-q-init c = All-replicate (λ key. length key ≡ c.args.n) 32 c.leaf_key-keys.result c.leaf_key-keys.ensures
