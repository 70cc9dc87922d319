use Rattle.std.proofs.Common.{inl, refl}
use Rattle.tool_base.specs.Ending as spec
use Rattle.tool_run.proofs.tool.finish.Goals as goal

pub returns-in-Err : goal.returns-in-Err
returns-in-Err g c = record { shown = spec.NoMemory; is = inl refl; answered = c.print-in-Err.ensures }
