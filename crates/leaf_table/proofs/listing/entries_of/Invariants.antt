use Rattle.std.proofs.Common.{◌*◌, ◌≤◌, length, vec_capacity}
use Rattle.leaf_table.specs.Entries.{IsFree, OneLease, map_of}
use Rattle.leaf_table.specs.Slots.{entries_of_slot, use_of_slot}
use Rattle.slot_file.specs.Cache.{state_of}
use Rattle.slot_file.proofs.Logs.{HasFirst}
use Rattle.leaf_table.proofs.listing.entries_of.Given as goal

abbrev pub invariant-leaves : goal.invariant-leaves
invariant-leaves g l = record {
  first : HasFirst entries_of_slot map_of use_of_slot IsFree OneLease (state_of l.slots).slots l.leaf l.entries.items;
  capacity : 2 * length (state_of l.slots).slots ≤ vec_capacity l.entries;
}
