use Rattle.std.proofs.Common.{ap, arith, option_map, refl, sym, ◌∙◌, Err}
use Rattle.disk_trait.specs.MemDisk.{MemState}
use Rattle.stream_memory.proofs.Links.{last_true}
use Rattle.stream_memory.proofs.Loans.{lent-onward, taken}
use Rattle.stream_memory.proofs.Unchanged.{kept_store, onward}
use Rattle.stream_memory.proofs.Outcomes.{has_failed, has_not, if_refused, not_steady, ok_no, on_err, refusal}
use Rattle.stream_memory.proofs.mem_store.MemStoreStore.take_disk.Goals as goal

pub returns-in_err-make : goal.returns-in_err-make
returns-in_err-make c =
    let is = refusal c.from_residual.result _ c.from_residual.ensures.1 in
    let entries = c.args.self.now.entries.list.items in
    let made = c.in_err-make.ensures in
    record {
      taken = if_refused _ _ _ is;
      absent = λ told steady _. absurd (not_steady _ _ _ _ made.steady steady);
      refused = on_err _ _ (kept_store entries entries _ _ _ _ _ _ _ refl);
      cause = has_failed _ _ _ _ is refl made.later made.fault;
      onward = onward entries entries _ _ _ _ _ _ _ _ _ refl made.failing made.later;
    }

pub returns-in-Some-clause-absent : goal.returns-in-Some-clause-absent
returns-in-Some-clause-absent c = λ told steady is. absurd (ok_no _ _ _ refl is)

pub returns-in-Some-clause-refused : goal.returns-in-Some-clause-refused
returns-in-Some-clause-refused c = tt

pub returns-in-Some-clause-cause : goal.returns-in-Some-clause-cause
returns-in-Some-clause-cause c = has_not _ _ _ (ok_no _ _ _ refl) c.in_ok-make.ensures.ok

pub returns-in-Some-clause-taken : goal.returns-in-Some-clause-taken
returns-in-Some-clause-taken c =
    rw c.new.ensures.made
    (taken c.args.self.now.entries.list.items c.lend.new.self.list.items c.args.name.now _ _ _ _ _ _ c.in-Some.disk _
    (sym c.in-Some.ensures.lent) c.in-Some.ensures.slots (last_true _ _) c.new.ensures.has_room)

pub returns-in-Some-clause-onward : goal.returns-in-Some-clause-onward
returns-in-Some-clause-onward c =
    let made = c.in_ok-make.ensures in
    let lent = c.in-Some.ensures in
    lent-onward c.args.self.now.entries.list.items c.lend.new.self.list.items c.args.name.now c.in-Some.disk _ _ _ _ _ _ _ _
    (sym lent.lent) lent.slots lent.readers lent.steady made.failing made.later

pub returns-in-None : goal.returns-in-None
returns-in-None c =
    let old = c.args.self.now.entries.list.items in
    let new = c.lend.new.self.list.items in
    let made = c.in_ok-make.ensures in
    let is = ap Err c.from.ensures in
    record {
      taken = tt;
      absent = λ told steady _. ap (option_map (λ (disk : MemState). disk.bytes)) (sym c.in-None.ensures.lent);
      refused = kept_store old new _ _ _ _ _ _ _ c.in-None.ensures.refused;
      cause = has_failed _ _ _ _ is made.ok c.fail.ensures.later c.fail.ensures.fault;
      onward = onward old new _ _ _ _ _ _ _ _ _ c.in-None.ensures.refused (c.fail.ensures.failing ∙ made.failing)
          (let a = made.later in let b = c.fail.ensures.later in omega (arith, a, b));
    }
