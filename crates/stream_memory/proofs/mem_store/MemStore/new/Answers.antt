use Rattle.std.proofs.Common.{refl}
use Rattle.stream_memory.specs.Calls.{is_empty}
use Rattle.stream_memory.proofs.Added.{steady_among}
use Rattle.stream_memory.proofs.Loans.{begun, with_true}
use Rattle.stream_memory.proofs.mem_store.MemStore.new.Goals as goal

pub returns-clause-begun : goal.returns-clause-begun
returns-clause-begun c = rw (c.new-2.ensures.faults, c.in_ok-new.ensures) (begun c.args.disks.items _)

pub returns-clause-steady : goal.returns-clause-steady
returns-clause-steady c =
    rw (c.new-2.ensures.failing, c.in_ok-new.ensures, steady_among c.args.disks.items, with_true (is_empty c.args.failing.items), with_true (is_empty c.args.failing.items)) refl
