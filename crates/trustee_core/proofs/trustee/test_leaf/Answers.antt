use Rattle.std.proofs.Common.{rules, arith}
use Rattle.trustee_core.specs.Decisions.{foreign_key, no_such_leaf, not_member, too_long}
use Rattle.trustee_core.proofs.trustee.test_leaf.Goals as goal

pub returns-then-ne-clause-refused : goal.returns-then-ne-clause-refused
returns-then-ne-clause-refused c = foreign_key (λ same. search rules)

pub returns-then-ask-leaves-clause-refused : goal.returns-then-ask-leaves-clause-refused
returns-then-ask-leaves-clause-refused c = no_such_leaf (search rules) (search (arith, rules))

pub returns-then-not-is_member-clause-refused : goal.returns-then-not-is_member-clause-refused
returns-then-not-is_member-clause-refused c = not_member (search rules) (search (arith, rules)) (λ has. search rules)

pub returns-then-got-gt-MESSAGE_LIMIT-clause-refused : goal.returns-then-got-gt-MESSAGE_LIMIT-clause-refused
returns-then-got-gt-MESSAGE_LIMIT-clause-refused c = too_long (search rules) (search (arith, rules)) (search rules) (search (arith, rules))
