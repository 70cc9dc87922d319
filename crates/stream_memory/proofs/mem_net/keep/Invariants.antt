use Rattle.std.proofs.Common.{◌≡◌, ◌++◌, map}
use Rattle.stream_memory.specs.Ports.{kept_of}
use Rattle.stream_memory.proofs.mem_net.keep.Given as goal

abbrev pub invariant-loop-port : goal.invariant-loop-port
invariant-loop-port l = record {
  kept : l.kept ≡ l.fn.kept ++ map kept_of l.yielded;
  whole : l.yielded ++ l.port-iterator.rest.items ≡ l.fn.ports.items;
}
