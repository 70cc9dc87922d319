use Rattle.std.proofs.Common.{◌≤◌, length, vec_capacity}
use Rattle.slot_file.specs.Cache.{state_of}
use Rattle.leaf_table.proofs.Indexing.{ListsBelow}
use Rattle.leaf_table.proofs.index.leases_of.Given as goal

abbrev pub invariant-leaves : goal.invariant-leaves
invariant-leaves g l =
    ListsBelow l.plan (state_of l.slots).slots l.leaf l.leases.items
    × (length (state_of l.slots).slots ≤ vec_capacity l.leases)
