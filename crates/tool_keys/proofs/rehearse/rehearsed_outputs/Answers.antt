use Rattle.tool_keys.specs.Rehearse.{no_memory}
use Rattle.tool_keys.proofs.Rehearsing.{rehearsal_refused}
use Rattle.tool_keys.proofs.rehearse.rehearsed_outputs.Goals as goal

pub returns-in-Err-clause-refused : goal.returns-in-Err-clause-refused
returns-in-Err-clause-refused c = rw c.end_of_fault.ensures (rehearsal_refused _ c.in-Err.fault c.in-Err.ensures.cause)

pub returns-in-Err-named_outputs-clause-refused : goal.returns-in-Err-named_outputs-clause-refused
returns-in-Err-named_outputs-clause-refused c = no_memory
