use Rattle.std.proofs.Common.{◌≡◌, ◌<◌, ◌≤◌, ◌∙◌, ◌↔◌, ◌⊎◌, ◌%◌, ◌++◌, ◌∷◌, [], ℕ, List, length, ap, subst, sym, arith, length-append}
use Rattle.std.specs.List.{Contains}
use Rattle.std.proofs.lemmas.List.{take_all}
use Rattle.coalition_map.specs.Coalitions.{count_of}
use Rattle.leaf_table.specs.Index.{Listed}
use Rattle.leaf_table.proofs.Indexing.{ListsBelow, below-half, below-other, pushed}
use Rattle.leaf_table.proofs.Orders.{key_cmp, listed-exact, pair_cmp}
use Rattle.slot_file.specs.Cache.{state_of}
use Rattle.slot_file.specs.Copies.{taken_count}
use Rattle.sorted_list.proofs.Exact.{holds-contains}
use Rattle.leaf_table.proofs.index.leases_of.Goals as goal
use Rattle.leaf_table.proofs.index.leases_of.Goals.{in-Half, in_default}

pub leaves-preserved : goal.leaves-preserved
leaves-preserved g c =
    let plan = c.args.plan.now in
    let slots = (state_of c.args.slots.now).slots in
    let leaf = c.leaves.leaf in
    let old = c.leaves.leases.items in
    let inside : leaf < length slots = omega (arith, c.leaves-test.true, c.count-count.ensures) in
    let below = c.leaves.invariant.0 in
    elim c.match-slot.branch [
      | in-Half w ↦
          let id = w.in-Half.id in
          let new = w.push_reserved.new.self.items in
          let half = sym c.slot.ensures ∙ w.in-Half.is in
          let is : new ≡ old ++ ((leaf % count_of plan, id), leaf) ∷ [] =
          w.push_reserved.ensures.items ∙ ap (λ (k : ℕ). old ++ ((k, id), leaf) ∷ []) w.coalition_of.ensures.number in
          let has = subst (λ (items : List Listed). (other : Listed)
          → Contains items other ↔ ((other ≡ ((leaf % count_of plan, id), leaf)) ⊎ Contains old other)) (sym is)
          (pushed old ((leaf % count_of plan, id), leaf)) in
          let size = ap length is ∙ length-append old (((leaf % count_of plan, id), leaf) ∷ []) in
          let more = below-half plan slots leaf inside old below id new half has (omega (arith, size)) in
          rw w.leases-is (more, omega (arith, c.leaves.invariant.1, w.push_reserved.ensures.capacity))
      | in_default w ↦
          let same = below-other plan slots leaf inside old below (λ id half. w.in_default.not-Half id (c.slot.ensures ∙ half)) in
          rw w.leases-is (same, c.leaves.invariant.1)
    ]

pub returns-clause-leases : goal.returns-clause-leases
returns-clause-leases g c =
    let slots = (state_of c.args.slots.now).slots in
    let new = c.of_items.result.items in
    let below = c.leaves.invariant.0 in
    let sorted = c.of_items.ensures in
    let end : length slots ≤ c.leaves.leaf = omega (arith, c.leaves-test.false, c.count-count.ensures) in
    record {
      listed = λ lease has. below.listed lease (sorted.among lease has);
      complete = λ leaf id small is absent. below.complete leaf id (omega (arith, small, end)) is
          (λ has. absent (holds-contains (pair_cmp key_cmp) listed-exact new _ (sorted.complete _ has)));
      few = omega (arith, below.few, sorted.length, ap taken_count (take_all c.leaves.leaf slots end));
    }

pub returns-clause-room : goal.returns-clause-room
returns-clause-room g c = omega (arith, c.leaves.invariant.1, c.of_items.ensures.room)
