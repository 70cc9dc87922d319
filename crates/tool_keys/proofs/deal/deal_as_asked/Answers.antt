use Rattle.tool_keys.proofs.Dealing.{committed_refused, refused}
use Rattle.tool_keys.proofs.deal.deal_as_asked.Goals as goal

pub returns-in-Err-Deal-clause-refused : goal.returns-in-Err-Deal-clause-refused
returns-in-Err-Deal-clause-refused g c =
    rw c.end_of_fault.ensures (committed_refused _ _ _ _ _ c.requires.small c.if-words.true c.requires.asked.set c.requires.asked.plan_is c.requires.asked.sound
    (rw c.in-Err-Deal.field-0-is at c.in-Err-Deal.ensures.deals.cause))

pub returns-in-Err-TooLarge-clause-refused : goal.returns-in-Err-TooLarge-clause-refused
returns-in-Err-TooLarge-clause-refused g c =
    committed_refused _ _ _ _ _ c.requires.small c.if-words.true c.requires.asked.set c.requires.asked.plan_is c.requires.asked.sound
    (rw c.in-Err-TooLarge.field-0-is at c.in-Err-TooLarge.ensures.deals.cause)

pub returns-in-Err-clause-refused : goal.returns-in-Err-clause-refused
returns-in-Err-clause-refused g c =
    rw c.end_of_fault-in-Err.ensures (refused _ _ _ _ _ c.requires.small c.requires.asked.set c.requires.asked.plan_is c.requires.asked.sound c.in-Err.ensures.cause)
