use Rattle.stream_memory.proofs.Added.{pushed, pushed_readers, steady_pushed}
use Rattle.stream_memory.proofs.Outcomes.{on_refused, refusal}
use Rattle.stream_memory.proofs.entries.Entries.add.Goals as goal

pub returns-clause-slots : goal.returns-clause-slots
returns-clause-slots c = λ other.
    rw c.in_ok-push.ensures.items (pushed c.args.self.now.list.items _ c.args.name.now other c.in_ok-name.ensures.ok c.requires)

pub returns-clause-readers : goal.returns-clause-readers
returns-clause-readers c = λ other.
    rw c.in_ok-push.ensures.items (pushed_readers c.args.self.now.list.items _ c.args.name.now other c.in_ok-name.ensures.ok c.requires)

pub returns-clause-steady : goal.returns-clause-steady
returns-clause-steady c = rw c.in_ok-push.ensures.items (steady_pushed c.args.self.now.list.items _)

pub returns-clause-refused : goal.returns-clause-refused
returns-clause-refused c = tt

pub returns-clause-memory : goal.returns-clause-memory
returns-clause-memory c = tt

pub returns-in_err-name-clause-slots : goal.returns-in_err-name-clause-slots
returns-in_err-name-clause-slots c = on_refused _ _ _ (refusal c.from_residual.result _ c.from_residual.ensures.1)

pub returns-in_err-name-clause-readers : goal.returns-in_err-name-clause-readers
returns-in_err-name-clause-readers c = on_refused _ _ _ (refusal c.from_residual.result _ c.from_residual.ensures.1)

pub returns-in_err-name-clause-steady : goal.returns-in_err-name-clause-steady
returns-in_err-name-clause-steady c = on_refused _ _ _ (refusal c.from_residual.result _ c.from_residual.ensures.1)

pub returns-in_err-push-clause-slots : goal.returns-in_err-push-clause-slots
returns-in_err-push-clause-slots c = on_refused _ _ _ (refusal c.from_residual-in_err-push.result _ c.from_residual-in_err-push.ensures.1)

pub returns-in_err-push-clause-readers : goal.returns-in_err-push-clause-readers
returns-in_err-push-clause-readers c = on_refused _ _ _ (refusal c.from_residual-in_err-push.result _ c.from_residual-in_err-push.ensures.1)

pub returns-in_err-push-clause-steady : goal.returns-in_err-push-clause-steady
returns-in_err-push-clause-steady c = on_refused _ _ _ (refusal c.from_residual-in_err-push.result _ c.from_residual-in_err-push.ensures.1)
