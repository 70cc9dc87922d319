use Rattle.std.proofs.Common.{ap, Err}
use Rattle.tool_base.proofs.Writing.{not_new_of}
use Rattle.tool_base.proofs.outputs.write_output.Goals as goal

pub returns-in-Ok-clause-written : goal.returns-in-Ok-clause-written
returns-in-Ok-clause-written g c = rw (← c.as_str-name.ensures.value, ← c.deref.ensures.value) c.in-Ok.ensures.written

pub returns-in-Err-clause-refused : goal.returns-in-Err-clause-refused
returns-in-Err-clause-refused g c =
    let step = c.in-Err.ensures in
    rw (← c.as_str-name.ensures.value) (not_new_of _ _ c.in-Err.fault _ c.end_of_new.ensures
    (λ is told. step.exists told (ap Err is))
    (λ is. record { rose = step.cause.rose (ap Err is); unsteady = λ steady. step.answers steady (ap Err is) }))
