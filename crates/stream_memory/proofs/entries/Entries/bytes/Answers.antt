use Rattle.std.proofs.Common.{refl}
use Rattle.stream_memory.proofs.Added.{none_of, slot_at}
use Rattle.stream_memory.proofs.entries.Entries.bytes.Goals as goal

pub returns-in_err-place : goal.returns-in_err-place
returns-in_err-place c =
    rw (c.from_residual.ensures, none_of c.args.self.now.list.items c.args.name.now c.in_err-place.ensures) refl

pub returns-in-Here : goal.returns-in-Here
returns-in-Here c =
    rw (slot_at c.args.self.now.list.items c.args.name.now c.in_ok-place.place c.index.result.now c.in_ok-place.ensures c.index.ensures, c.in-Here.is, c.bytes.ensures) refl

pub returns-in-Out : goal.returns-in-Out
returns-in-Out c =
    rw (slot_at c.args.self.now.list.items c.args.name.now c.in_ok-place.place c.index.result.now c.in_ok-place.ensures c.index.ensures, c.in-Out.is) refl
