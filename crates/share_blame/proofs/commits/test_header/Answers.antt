use Rattle.share_blame.proofs.Heads.{no_difference, other_key, other_plan}
use Rattle.share_blame.proofs.commits.test_header.Goals as goal

pub returns-then-not-is_of_key-clause-refused : goal.returns-then-not-is_of_key-clause-refused
returns-then-not-is_of_key-clause-refused c =
    other_key _ _ _ _ _ _ (λ is. let yes = c.is_of_key.ensures.1 is in let not = c.if-not-is_of_key.true in cc)

pub returns-then-not-is_of_plan-clause-refused : goal.returns-then-not-is_of_plan-clause-refused
returns-then-not-is_of_plan-clause-refused c =
    let key = c.if-not-is_of_key.false in
    other_plan _ _ _ _ _ _ (c.is_of_key.ensures.0 (cc)) (λ is. let yes = c.is_of_plan.ensures.1 is in let not = c.if-not-is_of_plan.true in cc)

pub returns-clause-faultless : goal.returns-clause-faultless
returns-clause-faultless c =
    let key = c.if-not-is_of_key.false in
    let plan = c.if-not-is_of_plan.false in
    no_difference _ _ _ _ _ _ (c.is_of_key.ensures.0 (cc)) (c.is_of_plan.ensures.0 (cc))
