use Rattle.std.proofs.Common.{◌≡◌, ◌≤◌, ◌∙◌, Some, [], ap, arith, is_some, refl, sym}
use Rattle.disk_trait.specs.MemDisk.{MemState}
use Rattle.stream_memory.specs.MemStore.{new_disk}
use Rattle.stream_memory.proofs.Links.{last_true}
use Rattle.stream_memory.proofs.Loans.{lent-onward, made, onward-then, taken}
use Rattle.stream_memory.proofs.Outcomes.{has_not, if_refused, ok_no, on_err, refusal, rises-as, same_fault}
use Rattle.stream_memory.proofs.mem_store.MemStoreStore.new_disk.Goals as goal

pub returns-in_err-enter : goal.returns-in_err-enter
returns-in_err-enter c =
    let is = refusal c.from_residual.result _ c.from_residual.ensures.1 in
    let entered = c.in_err-enter.ensures in
    record {
      made = if_refused _ _ _ is;
      exists = λ told was. entered.exists (same_fault _ _ _ is was);
      answers = λ steady was. entered.answers steady (same_fault _ _ _ is was);
      refused = on_err _ _ entered.refused;
      cause = rises-as _ _ _ _ _ is entered.cause;
      onward = entered.onward;
    }

pub unwrap-requires : goal.unwrap-requires
unwrap-requires c = ap is_some (c.lend.ensures.lent ∙ c.in_ok-enter.ensures.disk)

pub returns-clause-made : goal.returns-clause-made
returns-clause-made c =
    let entered = c.in_ok-enter.ensures in
    let lent = c.lend.ensures in
    let there = sym lent.lent ∙ c.unwrap.ensures in
    let same : Some c.unwrap.result ≡ Some (new_disk [] c.args.size c.args.self.now.new_stops) = sym there ∙ entered.disk in
    let is : c.unwrap.result ≡ new_disk [] c.args.size c.args.self.now.new_stops = cc in
    let room : c.args.size ≤ c.unwrap.result.capacity = rw is (omega arith) in
    rw c.new.ensures.made
    (made entered.written entered.onward
    (taken c.enter.new.self.entries.list.items c.lend.new.self.list.items c.args.name.now _ _ _ _ _ _ c.unwrap.result _
    there (rw c.unwrap.ensures at lent.slots) (last_true _ _) c.new.ensures.has_room)
    (ap (λ (disk : MemState). disk.bytes) is) room (lent.readers c.args.name.now))

pub returns-clause-exists : goal.returns-clause-exists
returns-clause-exists c = λ told is. absurd (ok_no _ _ _ refl is)

pub returns-clause-answers : goal.returns-clause-answers
returns-clause-answers c = λ steady. ok_no _ _ _ refl

pub returns-clause-refused : goal.returns-clause-refused
returns-clause-refused c = tt

pub returns-clause-cause : goal.returns-clause-cause
returns-clause-cause c = has_not _ _ _ (ok_no _ _ _ refl) (c.in_ok-enter.ensures.cause.same (ok_no _ _ _ refl))

pub returns-clause-onward : goal.returns-clause-onward
returns-clause-onward c =
    let lent = c.lend.ensures in
    let calls = c.enter.new.self.calls in
    let later : calls.faults ≤ calls.faults = omega arith in
    onward-then c.in_ok-enter.ensures.onward
    (lent-onward c.enter.new.self.entries.list.items c.lend.new.self.list.items c.args.name.now c.unwrap.result _ _ calls.failing calls.failing _ _ _ _
    (sym lent.lent ∙ c.unwrap.ensures) (rw c.unwrap.ensures at lent.slots) lent.readers lent.steady refl later)
