use Rattle.std.proofs.Common.{refl}
use Rattle.stream_memory.proofs.Added.{none_read, read_at}
use Rattle.stream_memory.proofs.entries.Entries.readers.Goals as goal

pub returns-in_err-place : goal.returns-in_err-place
returns-in_err-place c =
    rw (c.from_residual.ensures, none_read c.args.self.now.list.items c.args.name.now c.in_err-place.ensures) refl

pub returns : goal.returns
returns c =
    rw (read_at c.args.self.now.list.items c.args.name.now c.in_ok-place.place c.index.result.now c.in_ok-place.ensures c.index.ensures) refl
