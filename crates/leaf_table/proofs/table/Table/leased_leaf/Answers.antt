use Rattle.std.proofs.Common.{ℕ, List, subst}
use Rattle.leaf_table.specs.Entries.{IsLeased}
use Rattle.leaf_table.specs.Index.{IsFound}
use Rattle.leaf_table.specs.Table.{plan_of}
use Rattle.leaf_table.proofs.Events.{found-least-of, found-none-of}
use Rattle.slot_file.specs.Cache.{state_of as cache_state}
use Rattle.leaf_table.proofs.table.Table.leased_leaf.Goals as goal

pub returns-clause-least : goal.returns-clause-least
returns-clause-least g c =
    let self = c.args.self.now in
    let slots = (cache_state self.slots).slots in
    let found = subst (λ (id : List ℕ). IsFound (plan_of self) slots c.args.c (IsLeased id) c.leased.result) c.to_bytes.ensures
    (c.leased.ensures (plan_of self) slots self.count self.indexed) in
    found-least-of (plan_of self) c.args.c slots self.entries.items self.count self.sound.slots _ c.leased.result found

pub returns-clause-none : goal.returns-clause-none
returns-clause-none g c =
    let self = c.args.self.now in
    let slots = (cache_state self.slots).slots in
    let found = subst (λ (id : List ℕ). IsFound (plan_of self) slots c.args.c (IsLeased id) c.leased.result) c.to_bytes.ensures
    (c.leased.ensures (plan_of self) slots self.count self.indexed) in
    found-none-of (plan_of self) c.args.c slots self.entries.items self.count self.sound.slots _ c.leased.result found
