use Rattle.std.proofs.Common.{Err, sym, ap, ◌∙◌}
use Rattle.tool_base.specs.Outputs.{test_failed, no_memory_to_name}
use Rattle.tool_base.proofs.Writing.{new_part, not_new_part, there_or_no_memory}
use Rattle.tool_base.proofs.outputs.test_new.Goals as goal

pub returns-in-Ok-true-clause-refused : goal.returns-in-Ok-true-clause-refused
returns-in-Ok-true-clause-refused g c =
    λ first last part. not_new_part _ _ _ _ part _ _
    (there_or_no_memory _ _ _ c.exists.ensures (λ told. sym (c.in-Ok-true.ensures.found told) ∙ c.in-Ok-true.field-0-test))

pub returns-in-Ok-false-clause-new : goal.returns-in-Ok-false-clause-new
returns-in-Ok-false-clause-new g c =
    λ first last part. new_part _ _ _ _ part _ (λ told. sym (c.in-Ok-false.ensures.found told) ∙ c.in-Ok-false.field-0-test)

pub returns-in-Err-Failed-clause-refused : goal.returns-in-Err-Failed-clause-refused
returns-in-Err-Failed-clause-refused g c =
    let is = c.in-Err-Failed.field-0-is in
    λ first last part. not_new_part _ _ _ _ part _ _
    (test_failed (record { rose = c.in-Err-Failed.ensures.cause.rose (ap Err is); unsteady = λ steady. c.in-Err-Failed.ensures.answers steady (ap Err is) }))

pub returns-in-Err-NoMemory-clause-refused : goal.returns-in-Err-NoMemory-clause-refused
returns-in-Err-NoMemory-clause-refused g c = λ first last part. no_memory_to_name
