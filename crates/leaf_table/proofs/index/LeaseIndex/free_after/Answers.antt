use Rattle.std.proofs.Common.{◌∙◌, ◌%◌, ℕ, List, Option, set, subst, sym}
use Rattle.std.specs.Prelude.{IfSome}
use Rattle.coalition_map.specs.Coalitions.{count_of}
use Rattle.leaf_table.specs.Entries.{IsFree}
use Rattle.leaf_table.specs.Index.{IsFound, IsPassed}
use Rattle.leaf_table.proofs.Indexing.{half≢free}
use Rattle.leaf_table.proofs.Walking.{free-at, other-leaf, passes-taken, same-leaf, stays-found}
use Rattle.slot_file.specs.Cache.{state_of}
use Rattle.slot_file.specs.declared.slot.Slot.{Slot}
use Rattle.slot_file.specs.declared.slot.Slot.TheVariants.{Half}
use Rattle.leaf_table.proofs.index.LeaseIndex.free_after.Goals as goal

pub next_free-requires-clause-passed : goal.next_free-requires-clause-passed
next_free-requires-clause-passed g c =
    let plan = c.args.plan.now in
    let leaf = c.args.leaf in
    let (id, was) = c.requires.index in
    let k = c.coalition_of-c.result in
    let slots = (state_of c.args.slots.now).slots in
    let same = same-leaf c.free-least.result leaf (sym c.eq.ensures ∙ c.if-eq.true) in
    let least = was.indexed.free.least k leaf c.coalition_of-c.ensures.within (sym c.free-least.ensures ∙ same) in
    subst (λ (found : Option ℕ). IfSome found (IsPassed plan slots k)) (sym same)
    (subst (λ (slots : List Slot). IsPassed plan slots k leaf) (sym was.is)
    (passes-taken plan was.earlier leaf was.within (Half id) (half≢free id) k least))

pub returns : goal.returns
returns g c =
    let plan = c.args.plan.now in
    let leaf = c.args.leaf in
    let (id, was) = c.requires.index in
    let k = c.coalition_of-c.result in
    let found = c.free-least.result in
    let is = subst (IsFound plan was.earlier k IsFree) (sym c.free-least.ensures)
    (free-at plan was.earlier (count_of plan) c.args.self.now.free.items was.indexed.free k c.coalition_of-c.ensures.within) in
    subst (λ (slots : List Slot). IsFound plan slots (leaf % count_of plan) IsFree found) (sym was.is)
    (subst (λ (n : ℕ). IsFound plan (set was.earlier leaf (Half id)) n IsFree found) c.coalition_of-c.ensures.number
    (stays-found plan was.earlier leaf was.within (Half id) (half≢free id) k found
    (other-leaf found leaf (sym c.eq.ensures ∙ c.if-eq.false)) is))
