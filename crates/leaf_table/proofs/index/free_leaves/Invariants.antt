use Rattle.std.proofs.Common.{◌≡◌, length}
use Rattle.coalition_map.specs.Coalitions.{count_of}
use Rattle.slot_file.specs.Cache.{state_of}
use Rattle.leaf_table.specs.Index.{AreFree}
use Rattle.leaf_table.proofs.index.free_leaves.Given as goal

abbrev pub invariant-coalitions : goal.invariant-coalitions
invariant-coalitions g l =
    (length l.free.items ≡ count_of l.plan) × AreFree l.plan (state_of l.slots).slots l.c l.free.items
