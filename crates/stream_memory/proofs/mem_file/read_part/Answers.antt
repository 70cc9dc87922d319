use Rattle.std.proofs.Common.{refl}
use Rattle.stream_memory.proofs.Outcomes.{if_refused, refusal}
use Rattle.stream_memory.proofs.mem_file.read_part.Goals as goal

pub returns-in_err-read_at-clause-size : goal.returns-in_err-read_at-clause-size
returns-in_err-read_at-clause-size c = if_refused _ _ _ (refusal c.from_residual.result _ c.from_residual.ensures.1)

pub returns-in_err-read_at-clause-bytes : goal.returns-in_err-read_at-clause-bytes
returns-in_err-read_at-clause-bytes c = if_refused _ _ _ (refusal c.from_residual.result _ c.from_residual.ensures.1)

pub returns-in_err-read_at-clause-within : goal.returns-in_err-read_at-clause-within
returns-in_err-read_at-clause-within c = if_refused _ _ _ (refusal c.from_residual.result _ c.from_residual.ensures.1)

pub returns-in_err-read_at-clause-end : goal.returns-in_err-read_at-clause-end
returns-in_err-read_at-clause-end c = if_refused _ _ _ (refusal c.from_residual.result _ c.from_residual.ensures.1)

pub returns-in_err-read_at-clause-same : goal.returns-in_err-read_at-clause-same
returns-in_err-read_at-clause-same c = rw c.read_at.ensures.after refl

pub returns-in_err-read_at-clause-images : goal.returns-in_err-read_at-clause-images
returns-in_err-read_at-clause-images c = rw c.read_at.ensures.after (λ image. (λ is. is, λ is. is))

pub returns-in_err-read_at-clause-limits : goal.returns-in_err-read_at-clause-limits
returns-in_err-read_at-clause-limits c = rw c.read_at.ensures.after (record { steady = refl; room = refl })

pub returns-clause-same : goal.returns-clause-same
returns-clause-same c = rw c.read_at.ensures.after refl

pub returns-clause-images : goal.returns-clause-images
returns-clause-images c = rw c.read_at.ensures.after (λ image. (λ is. is, λ is. is))

pub returns-clause-limits : goal.returns-clause-limits
returns-clause-limits c = rw c.read_at.ensures.after (record { steady = refl; room = refl })

pub returns-clause-succeeds : goal.returns-clause-succeeds
returns-clause-succeeds c = λ steady. refl
