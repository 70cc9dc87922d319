use Rattle.stream_memory.specs.Calls.{is_empty}
use Rattle.stream_memory.proofs.Loans.{files_steady}
use Rattle.stream_memory.proofs.mem_store.MemStore.of_files.Goals as goal

pub returns-clause-steady : goal.returns-clause-steady
returns-clause-steady c =
    rw (files_steady (is_empty c.args.failing.items) c.in_ok-disks_of.field-0.items c.args.files.items c.in_ok-disks_of.ensures) at c.new.ensures.steady
