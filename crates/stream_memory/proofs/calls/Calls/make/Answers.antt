use Rattle.std.proofs.Common.{refl, ◌∙◌}
use Rattle.stream_memory.proofs.calls.Calls.make.Goals as goal

pub returns-then-listed-clause-made : goal.returns-then-listed-clause-made
returns-then-listed-clause-made c = c.fail.ensures.made ∙ c.saturating_add-self.ensures

pub returns-then-listed-clause-fault : goal.returns-then-listed-clause-fault
returns-then-listed-clause-fault c = c.fail.ensures.fault

pub returns-then-listed-clause-later : goal.returns-then-listed-clause-later
returns-then-listed-clause-later c = c.fail.ensures.later

pub returns-then-listed-clause-failing : goal.returns-then-listed-clause-failing
returns-then-listed-clause-failing c = c.fail.ensures.failing

pub returns-else-listed-clause-made : goal.returns-else-listed-clause-made
returns-else-listed-clause-made c = c.saturating_add-self.ensures

pub returns-else-listed-clause-ok : goal.returns-else-listed-clause-ok
returns-else-listed-clause-ok c = refl

pub returns-else-listed-clause-failing : goal.returns-else-listed-clause-failing
returns-else-listed-clause-failing c = refl
