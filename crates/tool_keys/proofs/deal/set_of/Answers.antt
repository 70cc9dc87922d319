use Rattle.tool_keys.specs.Deal.{no_set}
use Rattle.tool_keys.proofs.deal.set_of.Goals as goal

pub returns-in-Err-clause-refused : goal.returns-in-Err-clause-refused
returns-in-Err-clause-refused c = λ entropy. no_set c.in-Err.field-0 c.in-Err.ensures.refused
