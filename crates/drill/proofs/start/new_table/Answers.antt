use Rattle.std.proofs.Common.{◌≡◌, ◌<◌, ◌^◌, ◌∙◌, ℕ, length, ap, refl, subst, sym}
use Rattle.std.proofs.lemmas.Result.{err_from_is_err_and}
use Rattle.coalition_map.specs.Coalitions.{PlanNumbers}
use Rattle.leaf_table.specs.Slots.{use_of_slot}
use Rattle.leaf_table.specs.Table.{state_of}
use Rattle.disk_trait.specs.MemDisk.{is_steady}
use Rattle.drill.proofs.Tables.{new-refused}
use Rattle.drill.proofs.start.new_table.Goals as goal

pub memory_fault-requires : goal.memory_fault-requires
memory_fault-requires c =
    let has = rw c.args.desk.now.plan_is at (c.in-Err-load.ensures.refused refl) in
    new-refused _ 32 c.prepare.new.disk.bytes c.in-Err-load.fault (c.in-Ok.ensures.new refl) has (c.in-Err-load.ensures.succeeds (c.prepare.ensures.stays.steady ∙ ap is_steady c.in_ok-disk.ensures) refl)

pub returns-in-Ok-load-clause-settled : goal.returns-in-Ok-load-clause-settled
returns-in-Ok-load-clause-settled c =
    let loaded = c.in-Ok-load.ensures.loaded in
    record { settled = loaded.settled; steady = loaded.unwritten.stays.steady ∙ c.prepare.ensures.stays.steady ∙ ap is_steady c.in_ok-disk.ensures }

pub returns-in-Ok-load-clause-free : goal.returns-in-Ok-load-clause-free
returns-in-Ok-load-clause-free c = λ q within.
    let table = c.in-Ok-load.table in
    let loaded = c.in-Ok-load.ensures.loaded in
    let has = loaded.file refl in
    let new = c.in-Ok.ensures.new refl in
    let size : length (state_of table).slots ≡ 2 ^ table.plan.h = table.count in
    let five : table.plan.h ≡ 5 = ap (λ (p : PlanNumbers). p.h) (loaded.plan_is ∙ c.args.desk.now.plan_is) in
    let inside = subst (λ (n : ℕ). q < n) (sym (size ∙ ap (λ (h : ℕ). 2 ^ h) five)) within in
    sym (table.sound.slots q inside) ∙ ap use_of_slot (sym (has.shows q inside) ∙ new.1.free q within)

pub returns-in_err-disk-clause-free : goal.returns-in_err-disk-clause-free
returns-in_err-disk-clause-free c = rw (err_from_is_err_and c.from_residual.result c.from_residual.ensures.1).1 tt

pub returns-in_err-disk-clause-settled : goal.returns-in_err-disk-clause-settled
returns-in_err-disk-clause-settled c = rw (err_from_is_err_and c.from_residual.result c.from_residual.ensures.1).1 tt

pub returns-in_err-disk-clause-table : goal.returns-in_err-disk-clause-table
returns-in_err-disk-clause-table c = rw (err_from_is_err_and c.from_residual.result c.from_residual.ensures.1).1 tt

pub returns-clause-free : goal.returns-clause-free
returns-clause-free c = tt

pub returns-clause-settled : goal.returns-clause-settled
returns-clause-settled c = tt

pub returns-clause-table : goal.returns-clause-table
returns-clause-table c = tt
