use Rattle.std.proofs.Common.{◌*◌, ◌≤◌, length, vec_capacity}
use Rattle.opening_journal.specs.Entries.{IsFree, IsLegalList, map_of, state_of_slot}
use Rattle.opening_journal.specs.Loading.{entries_of_slot}
use Rattle.slot_file.specs.Cache.{state_of}
use Rattle.slot_file.proofs.Logs.{HasFirst}
use Rattle.opening_journal.proofs.listing.entries_of.Given as goal

abbrev pub invariant-loop-leaf : goal.invariant-loop-leaf
invariant-loop-leaf g l = record {
  first : HasFirst (entries_of_slot l.n) map_of (state_of_slot l.n) IsFree IsLegalList (state_of l.slots).slots l.leaf l.entries.items;
  capacity : 2 * length (state_of l.slots).slots ≤ vec_capacity l.entries;
}
