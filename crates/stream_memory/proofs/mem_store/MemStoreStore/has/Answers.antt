use Rattle.std.proofs.Common.{refl, ◌∙◌}
use Rattle.stream_memory.proofs.Unchanged.{kept_store, onward}
use Rattle.stream_memory.proofs.Outcomes.{has_failed, has_not, if_refused, named, not_steady, ok_no, refusal}
use Rattle.stream_memory.proofs.mem_store.MemStoreStore.has.Goals as goal

pub returns-in_err-make : goal.returns-in_err-make
returns-in_err-make c =
    let is = refusal c.from_residual.result _ c.from_residual.ensures.1 in
    let entries = c.args.self.now.entries.list.items in
    let made = c.in_err-make.ensures in
    record {
      found = λ told. if_refused _ _ _ is;
      answers = λ steady _. not_steady _ _ _ _ made.steady steady;
      same = kept_store entries entries _ _ _ _ _ _ _ refl;
      cause = has_failed _ _ _ _ is refl made.later made.fault;
      onward = onward entries entries _ _ _ _ _ _ _ _ _ refl made.failing made.later;
    }

pub returns-clause-found : goal.returns-clause-found
returns-clause-found c = λ told. c.has.ensures ∙ named _

pub returns-clause-answers : goal.returns-clause-answers
returns-clause-answers c = λ steady. ok_no _ _ _ refl

pub returns-clause-same : goal.returns-clause-same
returns-clause-same c =
    let entries = c.args.self.now.entries.list.items in
    kept_store entries entries _ _ _ _ _ _ _ refl

pub returns-clause-cause : goal.returns-clause-cause
returns-clause-cause c = has_not _ _ _ (ok_no _ _ _ refl) c.in_ok-make.ensures.ok

pub returns-clause-onward : goal.returns-clause-onward
returns-clause-onward c =
    let entries = c.args.self.now.entries.list.items in
    onward entries entries _ _ _ _ _ _ _ _ _ refl c.in_ok-make.ensures.failing c.in_ok-make.ensures.later
