use Rattle.tool_base.proofs.Runs.{unchanged_none}
use Rattle.tool_keys.proofs.Stepping.{two_given, two_refused}
use Rattle.tool_keys.proofs.verify.verify_under.Goals as goal

pub returns-in-Err-clause-unchanged : goal.returns-in-Err-clause-unchanged
returns-in-Err-clause-unchanged g c = unchanged_none _

pub returns-in-Ok-read_two-clause-told : goal.returns-in-Ok-read_two-clause-told
returns-in-Ok-read_two-clause-told g c = rw c.in-Ok.is (λ first last part.
    two_given _ _ _ _ _ _ _ _ (c.in-Ok-read_two.ensures.bytes first last part)
    (rw (← c.deref.ensures.value, ← c.deref-in-Ok-read_two.ensures.value) c.tell.ensures))

pub returns-in-Err-read_two-clause-told : goal.returns-in-Err-read_two-clause-told
returns-in-Err-read_two-clause-told g c = rw c.in-Ok.is (λ first last part. two_refused _ _ _ _ _ (c.in-Err-read_two.ensures.refused first last part))
