use Rattle.std.proofs.Common.{◌≡◌, length}
use Rattle.std.proofs.lemmas.List.Elements.{All-replicate}
use Rattle.tests_scheme.proofs.trees.lms_verify_tests.tree_of.Goals as goal

pub loop-q-init : goal.loop-q-init
loop-q-init c = All-replicate (λ value. length value ≡ c.args.key.now.params.n) 32 c.args.seed.now c.requires.seed
