use Rattle.std.proofs.Common.{◌≡◌, map}
use Rattle.stream_memory.specs.MemStore.{entry_of}
use Rattle.stream_memory.proofs.entries.Entries.new.Given as goal

abbrev pub invariant-loop-name : goal.invariant-loop-name
invariant-loop-name l = l.list.items ≡ map entry_of l.yielded
