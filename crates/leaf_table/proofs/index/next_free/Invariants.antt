use Rattle.std.proofs.Common.{◌^◌}
use Rattle.slot_file.specs.Cache.{state_of}
use Rattle.leaf_table.proofs.Walking.{Seeks, left_of}
use Rattle.leaf_table.proofs.index.next_free.Given as goal

abbrev pub invariant-leaves : goal.invariant-leaves
invariant-leaves g l = Seeks l.plan (state_of l.slots).slots l.c l.next

abbrev pub decreases-leaves : goal.decreases-leaves
decreases-leaves g l = left_of (2 ^ l.plan.h) l.next
