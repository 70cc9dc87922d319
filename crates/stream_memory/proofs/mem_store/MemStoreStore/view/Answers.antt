use Rattle.std.proofs.Common.{arith, refl, sym, ◌∙◌, ap, Err}
use Rattle.stream_memory.proofs.Unchanged.{kept_store, onward, viewed}
use Rattle.stream_memory.proofs.Outcomes.{call_memory, has_failed, has_not, if_refused, not_steady, ok_no, on_err, other_no, refusal}
use Rattle.stream_memory.proofs.mem_store.MemStoreStore.view.Goals as goal

pub returns-in_err-make : goal.returns-in_err-make
returns-in_err-make c =
    let is = refusal c.from_residual.result _ c.from_residual.ensures.1 in
    let entries = c.args.self.now.entries.list.items in
    let made = c.in_err-make.ensures in
    record {
      viewed = if_refused _ _ _ is;
      absent = λ told steady _. absurd (not_steady _ _ _ _ made.steady steady);
      refused = on_err _ _ (kept_store entries entries _ _ _ _ _ _ _ refl);
      cause = has_failed _ _ _ _ is refl made.later made.fault;
      onward = onward entries entries _ _ _ _ _ _ _ _ _ refl made.failing made.later;
    }

pub returns-in_default : goal.returns-in_default
returns-in_default c =
    let entries = c.args.self.now.entries.list.items in
    let made = c.in_ok-make.ensures in
    let is = ap Err c.from.ensures in
    record {
      viewed = tt;
      absent = λ told steady _. sym c.in_default.ensures;
      refused = kept_store entries entries _ _ _ _ _ _ _ refl;
      cause = has_failed _ _ _ _ is made.ok c.fail.ensures.later c.fail.ensures.fault;
      onward = onward entries entries _ _ _ _ _ _ _ _ _ refl (c.fail.ensures.failing ∙ made.failing) (let a = made.later in let b = c.fail.ensures.later in omega (arith, a, b));
    }

pub returns-then-self : goal.returns-then-self
returns-then-self c =
    let entries = c.args.self.now.entries.list.items in
    let made = c.in_ok-make.ensures in
    record {
      viewed = tt;
      absent = λ told steady is. absurd (other_no _ _ _ call_memory refl is);
      refused = kept_store entries entries _ _ _ _ _ _ _ refl;
      cause = has_not _ _ _ (other_no _ _ _ call_memory refl) made.ok;
      onward = onward entries entries _ _ _ _ _ _ _ _ _ refl made.failing made.later;
    }

pub returns-in_err-view : goal.returns-in_err-view
returns-in_err-view c =
    let is = refusal c.from_residual-in_err-view.result _ c.from_residual-in_err-view.ensures.1 in
    let entries = c.args.self.now.entries.list.items in
    let made = c.in_ok-make.ensures in
    record {
      viewed = if_refused _ _ _ is;
      absent = λ told steady was. absurd (other_no _ _ _ call_memory is was);
      refused = on_err _ _ (kept_store entries entries _ _ _ _ _ _ _ refl);
      cause = has_not _ _ _ (other_no _ _ _ call_memory is) made.ok;
      onward = onward entries entries _ _ _ _ _ _ _ _ _ refl made.failing made.later;
    }

pub returns-clause-absent : goal.returns-clause-absent
returns-clause-absent c = λ told steady is. absurd (ok_no _ _ _ refl is)

pub returns-clause-refused : goal.returns-clause-refused
returns-clause-refused c = tt

pub returns-clause-cause : goal.returns-clause-cause
returns-clause-cause c = has_not _ _ _ (ok_no _ _ _ refl) c.in_ok-make.ensures.ok

pub returns-clause-viewed : goal.returns-clause-viewed
returns-clause-viewed c =
    viewed c.args.self.now.entries.list.items c.args.name.now c.in-Some.bytes.now _ _ _ _ _ _ _ _ c.in_ok-view.view
    (sym c.in-Some.ensures) c.in_ok-view.ensures.disk c.in_ok-view.ensures.fresh

pub returns-clause-onward : goal.returns-clause-onward
returns-clause-onward c =
    let entries = c.args.self.now.entries.list.items in
    onward entries entries _ _ _ _ _ _ _ _ _ refl c.in_ok-make.ensures.failing c.in_ok-make.ensures.later
