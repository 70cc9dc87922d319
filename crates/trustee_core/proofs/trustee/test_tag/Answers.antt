use Rattle.std.proofs.Common.{rules}
use Rattle.trustee_core.specs.Decisions.{bad_check}
use Rattle.trustee_core.proofs.trustee.test_tag.Goals as goal

pub returns-then-ne-clause-refused : goal.returns-then-ne-clause-refused
returns-then-ne-clause-refused c = bad_check c.args.second.now c.requires.own c.requires.second (λ same. search rules)
