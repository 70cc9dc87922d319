use Rattle.std.proofs.Common.{arith, refl, sym, ◌∙◌, ap, Err}
use Rattle.stream_memory.proofs.Unchanged.{kept_store, onward}
use Rattle.stream_memory.proofs.Outcomes.{failed_long, has_failed, has_not, if_refused, memory_long, not_steady, ok_no, other_no, read_long, read_memory, refusal}
use Rattle.stream_memory.proofs.mem_store.MemStoreStore.read_all.Goals as goal

pub returns-in_err-make : goal.returns-in_err-make
returns-in_err-make c =
    let is = refusal c.from_residual.result _ c.from_residual.ensures.1 in
    let entries = c.args.self.now.entries.list.items in
    let made = c.in_err-make.ensures in
    record {
      bytes = λ told. if_refused _ _ _ is;
      within = if_refused _ _ _ is;
      above = λ got was. absurd (other_no _ _ _ (failed_long got) is was);
      absent = λ told steady _. absurd (not_steady _ _ _ _ made.steady steady);
      same = kept_store entries entries _ _ _ _ _ _ _ refl;
      cause = has_failed _ _ _ _ is refl made.later made.fault;
      onward = onward entries entries _ _ _ _ _ _ _ _ _ refl made.failing made.later;
    }

pub returns-in_default : goal.returns-in_default
returns-in_default c =
    let entries = c.args.self.now.entries.list.items in
    let made = c.in_ok-make.ensures in
    let is = ap Err c.from.ensures in
    record {
      bytes = λ told. tt;
      within = tt;
      above = λ got was. absurd (other_no _ _ _ (failed_long got) is was);
      absent = λ told steady _. sym c.in_default.ensures;
      same = kept_store entries entries _ _ _ _ _ _ _ refl;
      cause = has_failed _ _ _ _ is made.ok c.fail.ensures.later c.fail.ensures.fault;
      onward = onward entries entries _ _ _ _ _ _ _ _ _ refl (c.fail.ensures.failing ∙ made.failing) (let a = made.later in let b = c.fail.ensures.later in omega (arith, a, b));
    }

pub returns-then-got-limit-clause-absent : goal.returns-then-got-limit-clause-absent
returns-then-got-limit-clause-absent c = λ told steady is. absurd (other_no _ _ _ (read_long _) refl is)

pub returns-then-got-limit-clause-same : goal.returns-then-got-limit-clause-same
returns-then-got-limit-clause-same c =
    let entries = c.args.self.now.entries.list.items in
    kept_store entries entries _ _ _ _ _ _ _ refl

pub returns-then-got-limit-clause-cause : goal.returns-then-got-limit-clause-cause
returns-then-got-limit-clause-cause c = has_not _ _ _ (other_no _ _ _ (read_long _) refl) c.in_ok-make.ensures.ok

pub returns-then-got-limit-clause-onward : goal.returns-then-got-limit-clause-onward
returns-then-got-limit-clause-onward c =
    let entries = c.args.self.now.entries.list.items in
    onward entries entries _ _ _ _ _ _ _ _ _ refl c.in_ok-make.ensures.failing c.in_ok-make.ensures.later

pub returns-in_err-from_slice : goal.returns-in_err-from_slice
returns-in_err-from_slice c =
    let is = refusal c.from_residual-in_err-from_slice.result _ c.from_residual-in_err-from_slice.ensures.1 in
    let entries = c.args.self.now.entries.list.items in
    let made = c.in_ok-make.ensures in
    record {
      bytes = λ told. if_refused _ _ _ is;
      within = if_refused _ _ _ is;
      above = λ got was. absurd (other_no _ _ _ (memory_long got) is was);
      absent = λ told steady was. absurd (other_no _ _ _ read_memory is was);
      same = kept_store entries entries _ _ _ _ _ _ _ refl;
      cause = has_not _ _ _ (other_no _ _ _ read_memory is) made.ok;
      onward = onward entries entries _ _ _ _ _ _ _ _ _ refl made.failing made.later;
    }

pub returns-clause-above : goal.returns-clause-above
returns-clause-above c = λ got is. absurd (ok_no _ _ _ refl is)

pub returns-clause-absent : goal.returns-clause-absent
returns-clause-absent c = λ told steady is. absurd (ok_no _ _ _ refl is)

pub returns-clause-same : goal.returns-clause-same
returns-clause-same c =
    let entries = c.args.self.now.entries.list.items in
    kept_store entries entries _ _ _ _ _ _ _ refl

pub returns-clause-cause : goal.returns-clause-cause
returns-clause-cause c = has_not _ _ _ (ok_no _ _ _ refl) c.in_ok-make.ensures.ok

pub returns-clause-bytes : goal.returns-clause-bytes
returns-clause-bytes c = λ told. rw c.in_ok-from_slice.ensures.items (sym c.in-Some.ensures)

pub returns-clause-onward : goal.returns-clause-onward
returns-clause-onward c =
    let entries = c.args.self.now.entries.list.items in
    onward entries entries _ _ _ _ _ _ _ _ _ refl c.in_ok-make.ensures.failing c.in_ok-make.ensures.later
