-- The lease that a look into the list finds.
use Rattle.std.proofs.Common.{◌≡◌, ◌≢◌, ℕ, ◌^◌, ◌<◌, ◌≤◌, List, length, None, sym, ap, subst, ⊎_elim, arith}
use Rattle.std.specs.List.{All, Contains}
use Rattle.std.specs.declared.cmp.Ordering.TheVariants.{Less}
use Rattle.std.proofs.lemmas.Bool.{cases_lt}
use Rattle.std.proofs.lemmas.List.Elements.{Contains-from_at}
use Rattle.coalition_map.specs.Coalitions.{IsLeafAfter, PlanNumbers}
use Rattle.leaf_table.specs.Entries.{IsLeased}
use Rattle.leaf_table.specs.Index.{Listed, Lists}
use Rattle.leaf_table.specs.Leasing.{HasNone, IsLeast}
use Rattle.leaf_table.specs.Slots.{use_of_slot}
use Rattle.leaf_table.proofs.Found.{leased-use}
use Rattle.leaf_table.proofs.Orders.{from-low, key-exact, key-total, key_cmp, none-low, pair_cmp}
use Rattle.slot_file.specs.State.{slot_in}
use Rattle.slot_file.specs.declared.slot.Slot.{Slot}
use Rattle.sorted_list.specs.Sorted.{IsAscending, IsLeastFrom}

module _ (plan : PlanNumbers) (slots : List Slot) (size : length slots ≡ 2 ^ plan.h) (items : List Listed) (lists : Lists plan slots items) (c : ℕ) (id : List ℕ) where
  -- a leaf that is leased is not absent
  there : (other : ℕ) → IsLeafAfter plan c None other → use_of_slot (slot_in slots other) ≡ IsLeased id
      → (Contains items ((c, id), other) → ⊥) → ⊥
  there other own used absent =
      lists.complete other id (omega (arith, own.leaf, size)) (leased-use (slot_in slots other) id used)
      (subst (λ (k : ℕ). Contains items ((k, id), other) → ⊥) (sym own.own) absent)

  pub found-least : (leaf : ℕ) (found : Listed) → found ≡ ((c, id), leaf) → IsAscending (pair_cmp key_cmp) items
      → IsLeastFrom (pair_cmp key_cmp) items ((c, id), 0) found
      → IsLeast plan c (λ leaf. use_of_slot (slot_in slots leaf)) (IsLeased id) leaf
  found-least leaf found is ascending least =
      let has = Contains-from_at items found (least.place, least.inside, least.here) in
      let ours = lists.listed ((c, id), leaf) (subst (Contains items) is has) in
      record {
        own = record { leaf = omega (arith, ours.within, size); own = ours.own; later = tt };
        used = ap use_of_slot ours.half;
        least = λ other own used. ⊎_elim
            (λ (below : other < leaf). absurd (there other own used (λ inside.
            let low = from-low key_cmp key-total key-exact items (c, id) found ascending least other inside in
            omega (arith, below, low.1, ap (λ (x : Listed). x.1) is))))
            (λ (from : leaf ≤ other). from)
            (cases_lt other leaf);
      }

  pub other-none : (found : Listed) → found.0 ≢ (c, id) → IsAscending (pair_cmp key_cmp) items
      → IsLeastFrom (pair_cmp key_cmp) items ((c, id), 0) found
      → HasNone plan c (λ leaf. use_of_slot (slot_in slots leaf)) (IsLeased id)
  other-none found differs ascending least leaf own used = there leaf own used (λ inside.
      let low = from-low key_cmp key-total key-exact items (c, id) found ascending least leaf inside in
      differs low.0)

  pub below-none : All (λ item. pair_cmp key_cmp item ((c, id), 0) ≡ Less) items
      → HasNone plan c (λ leaf. use_of_slot (slot_in slots leaf)) (IsLeased id)
  below-none all leaf own used = there leaf own used (λ inside. none-low key_cmp key-total key-exact items (c, id) all leaf inside)
