use Rattle.lms_bytes.specs.PublicKey.{public_bytes}
use Rattle.tests_scheme.proofs.trees.hss_levels_tests.is_signed.Goals as goal

pub returns-in-Accepted : goal.returns-in-Accepted
returns-in-Accepted c = λ _. (c.in-Accepted.leaf, rw c.requires at c.in-Accepted.ensures.verdict)
