use Rattle.std.proofs.Common.{arith, option_and_then, refl, sym, ◌∙◌, ap, Err, Some}
use Rattle.stream_memory.specs.MemStore.{disk_in, new_disk}
use Rattle.stream_memory.specs.declared.entries.Slot.TheVariants.{Here}
use Rattle.stream_memory.proofs.Loans.{absent, as_said, as_steady, new_steady, own, read_still, written}
use Rattle.stream_memory.proofs.Unchanged.{kept_store, onward}
use Rattle.stream_memory.proofs.Outcomes.{failed_exists, has_failed, has_not, memory_exists, named, new_exists, new_memory, not_steady, ok_no, on_err, on_refused, other_no, refusal}
use Rattle.stream_memory.proofs.mem_store.MemStore.enter.Goals as goal

pub returns-in_err-make : goal.returns-in_err-make
returns-in_err-make c =
    let is = refusal c.from_residual.result _ c.from_residual.ensures.1 in
    let entries = c.args.self.now.entries.list.items in
    let made = c.in_err-make.ensures in
    record {
      written = on_refused _ _ _ is;
      disk = on_refused _ _ _ is;
      exists = λ was. absurd (other_no _ _ _ failed_exists is was);
      answers = λ steady _. not_steady _ _ _ _ made.steady steady;
      refused = on_err _ _ (kept_store entries entries _ _ _ _ _ _ _ refl);
      cause = has_failed _ _ _ _ is refl made.later made.fault;
      onward = onward entries entries _ _ _ _ _ _ _ _ _ refl made.failing made.later;
    }

pub returns-then-has : goal.returns-then-has
returns-then-has c =
    let entries = c.args.self.now.entries.list.items in
    let made = c.in_ok-make.ensures in
    record {
      written = tt;
      disk = tt;
      exists = λ is. sym (named _) ∙ sym c.has.ensures ∙ c.if-has.true;
      answers = λ steady. other_no _ _ _ new_exists refl;
      refused = kept_store entries entries _ _ _ _ _ _ _ refl;
      cause = has_not _ _ _ (other_no _ _ _ new_exists refl) made.ok;
      onward = onward entries entries _ _ _ _ _ _ _ _ _ refl made.failing made.later;
    }

pub returns-in_default : goal.returns-in_default
returns-in_default c =
    let entries = c.args.self.now.entries.list.items in
    let made = c.in_ok-make.ensures in
    record {
      written = tt;
      disk = tt;
      exists = λ is. absurd (other_no _ _ _ memory_exists refl is);
      answers = λ steady. other_no _ _ _ new_memory refl;
      refused = kept_store entries entries _ _ _ _ _ _ _ refl;
      cause = has_not _ _ _ (other_no _ _ _ new_memory refl) made.ok;
      onward = onward entries entries _ _ _ _ _ _ _ _ _ refl made.failing made.later;
    }

pub returns-clause-exists : goal.returns-clause-exists
returns-clause-exists c = λ is. absurd (ok_no _ _ _ refl is)

pub returns-clause-answers : goal.returns-clause-answers
returns-clause-answers c = λ steady. ok_no _ _ _ refl

pub returns-clause-refused : goal.returns-clause-refused
returns-clause-refused c = tt

pub returns-clause-cause : goal.returns-clause-cause
returns-clause-cause c = has_not _ _ _ (ok_no _ _ _ refl) c.in_ok-make.ensures.ok

pub returns-in_err-add : goal.returns-in_err-add
returns-in_err-add c =
    let is = refusal c.from_residual-in_err-add.result _ c.from_residual-in_err-add.ensures.1 in
    let old = c.args.self.now.entries.list.items in
    let new = c.add.new.self.list.items in
    let made = c.in_ok-make.ensures in
    let was = is ∙ ap Err c.in_err-add.ensures.memory in
    record {
      written = on_refused _ _ _ was;
      disk = on_refused _ _ _ was;
      exists = λ is. absurd (other_no _ _ _ memory_exists was is);
      answers = λ steady. other_no _ _ _ new_memory was;
      refused = on_err _ _ (kept_store old new _ _ _ _ _ _ _ c.in_err-add.ensures.refused);
      cause = has_not _ _ _ (other_no _ _ _ new_memory was) made.ok;
      onward = onward old new _ _ _ _ _ _ _ _ _ c.in_err-add.ensures.refused made.failing made.later;
    }

pub returns-clause-written : goal.returns-clause-written
returns-clause-written c =
    written c.args.self.now.entries.list.items c.add.new.self.list.items c.args.name.now _ _ _ _ _ _ _ (absent _ (sym c.has.ensures ∙ c.if-has.false))
    c.args.bytes.now c.args.room c.args.readers (rw c.in-Ok.ensures at c.in_ok-add.ensures.slots) c.in_ok-add.ensures.readers

pub returns-clause-disk : goal.returns-clause-disk
returns-clause-disk c =
    let there = own c.args.self.now.entries.list.items c.add.new.self.list.items c.args.name.now _ c.in_ok-add.ensures.slots in
    ap (option_and_then disk_in) there ∙ ap Some c.in-Ok.ensures

pub returns-clause-onward : goal.returns-clause-onward
returns-clause-onward c =
    let stops = c.args.self.now.new_stops in
    let bytes = c.args.bytes.now in
    let room = c.args.room in
    let slot = Here (new_disk bytes room stops) in
    let gone = absent _ (sym c.has.ensures ∙ c.if-has.false) in
    let old = c.args.self.now.entries.list.items in
    let new = c.add.new.self.list.items in
    record {
      told = refl;
      steady = rw c.in_ok-make.ensures.failing (as_steady old new c.args.name.now stops slot (new_steady bytes room stops) gone _
          (rw c.in-Ok.ensures at c.in_ok-add.ensures.steady));
      disks = as_said old new c.args.name.now stops slot (new_steady bytes room stops) gone
          (rw c.in-Ok.ensures at c.in_ok-add.ensures.slots);
      readers = λ told. read_still old new c.args.name.now c.args.readers gone c.in_ok-add.ensures.readers;
      count = c.in_ok-make.ensures.later;
      disk_count = omega arith;
    }
