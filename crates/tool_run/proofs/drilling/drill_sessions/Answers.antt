use Rattle.tool_run.specs.Drill.{drilled, no_memory}
use Rattle.tool_run.proofs.drilling.drill_sessions.Goals as goal

pub returns-in-Ok : goal.returns-in-Ok
returns-in-Ok c = drilled c.in-Ok.drilled.summary (rw (← c.from.ensures) c.in-Ok.ensures.summary)

pub returns-in-Err : goal.returns-in-Err
returns-in-Err c = no_memory
