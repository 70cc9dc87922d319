use Rattle.std.proofs.Common.{subst, sym}
use Rattle.coalition_map.specs.Coalitions.{count_of}
use Rattle.leaf_table.specs.Entries.{IsFree}
use Rattle.leaf_table.specs.Index.{IsFound}
use Rattle.leaf_table.proofs.Walking.{free-at}
use Rattle.leaf_table.specs.Table.{plan_of}
use Rattle.leaf_table.proofs.Events.{found-least-of, found-none-of}
use Rattle.slot_file.specs.Cache.{state_of as cache_state}
use Rattle.leaf_table.proofs.table.Table.free_leaf.Goals as goal

pub returns-clause-least : goal.returns-clause-least
returns-clause-least g c =
    let self = c.args.self.now in
    let slots = (cache_state self.slots).slots in
    let found = subst (IsFound (plan_of self) slots c.args.c IsFree) (sym c.free.ensures)
    (free-at (plan_of self) slots (count_of (plan_of self)) self.index.free.items self.indexed.free c.args.c c.requires) in
    found-least-of (plan_of self) c.args.c slots self.entries.items self.count self.sound.slots IsFree c.free.result found

pub returns-clause-none : goal.returns-clause-none
returns-clause-none g c =
    let self = c.args.self.now in
    let slots = (cache_state self.slots).slots in
    let found = subst (IsFound (plan_of self) slots c.args.c IsFree) (sym c.free.ensures)
    (free-at (plan_of self) slots (count_of (plan_of self)) self.index.free.items self.indexed.free c.args.c c.requires) in
    found-none-of (plan_of self) c.args.c slots self.entries.items self.count self.sound.slots IsFree c.free.result found
