use Rattle.std.proofs.Common.{refl}
use Rattle.stream_memory.specs.MemStore.{steady_in}
use Rattle.stream_memory.specs.declared.entries.Slot.TheVariants.{Out}
use Rattle.stream_memory.proofs.Added.{as_steady, lent, none_of, same_readers, slot_at}
use Rattle.stream_memory.proofs.entries.Entries.lend.Goals as goal

pub returns-in_err-place-clause-lent : goal.returns-in_err-place-clause-lent
returns-in_err-place-clause-lent c =
    rw (c.from_residual.ensures, none_of c.args.self.now.list.items c.args.name.now c.in_err-place.ensures) refl

pub returns-clause-lent : goal.returns-clause-lent
returns-clause-lent c =
    let old = c.index_mut.result.now in
    rw (slot_at c.args.self.now.list.items c.args.name.now c.in_ok-place.place old c.in_ok-place.ensures c.index_mut.ensures.value) c.take.ensures.taken

pub returns-clause-slots : goal.returns-clause-slots
returns-clause-slots c =
    let old = c.index_mut.result.now in
    rw (c.take.ensures.taken, c.take.ensures.out)
    (lent c.args.self.now.list.items c.args.name.now c.in_ok-place.place old c.in_ok-place.ensures c.index_mut.ensures.value)

pub returns-clause-steady : goal.returns-clause-steady
returns-clause-steady c =
    let old = c.index_mut.result.now in
    rw c.take.ensures.out
    (as_steady c.args.self.now.list.items c.args.name.now c.in_ok-place.place old c.in_ok-place.ensures c.index_mut.ensures.value (Out (steady_in old.slot)) refl)

pub returns-clause-readers : goal.returns-clause-readers
returns-clause-readers c =
    let old = c.index_mut.result.now in
    rw c.take.ensures.out
    (same_readers c.args.self.now.list.items c.args.name.now c.in_ok-place.place old c.in_ok-place.ensures c.index_mut.ensures.value (Out (steady_in old.slot)))
