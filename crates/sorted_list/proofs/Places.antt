-- What a search finds among ascending items, and what an item between them leaves.
use Rattle.std.proofs.Common.{◌≡◌, ◌↔◌, ℕ, Result, Ok, Err, IfOk, IfErr, is_ok, IsTrue, ◌+◌, ◌-◌, ◌<◌, ◌≤◌, ⊎_elim, List, length, get_or, subst, sym, ap, refl, ◌∙◌, arith, true≢false}
use Rattle.std.specs.Cmp.{IsTotalOrder}
use Rattle.std.specs.List.{HoldsAt, insert}
use Rattle.std.specs.List.Sorted.{IsNonDecreasingBy, IsPartitionPoint}
use Rattle.std.specs.Ordering.{is_lt, is_eq, ordering_index, ordering_reverse}
use Rattle.std.specs.declared.cmp.Ordering.{Ordering}
use Rattle.std.specs.declared.cmp.Ordering.TheVariants.{Less, Equal, Greater}
use Rattle.std.proofs.lemmas.Bool.{cases_lt}
use Rattle.std.proofs.lemmas.List.Edits.{length-insert, get_or-insert_below, get_or-insert_at, get_or-insert_above}
use Rattle.std.proofs.lemmas.List.Sorted.{searchable_from_sorted}
use Rattle.sorted_list.specs.Sorted.{Holds, IsAscending}

less_equal : Less ≡ Equal → ⊥
less_equal p = true≢false (ap is_lt p)

greater_equal : Greater ≡ Equal → ⊥
greater_equal p = true≢false (sym (ap is_eq p))

module _ {T : Type 0} (cmp : T → T → Ordering) (total : IsTotalOrder cmp) where
  turned : (x y : T) → cmp x y ≡ Greater → cmp y x ≡ Less
  turned x y above = total.antisymm y x ∙ ap ordering_reverse above

  -- the answers rise along the items, as a binary search asks
  pub rises : (items : List T) (item : T) → IsAscending cmp items
      → IsNonDecreasingBy (λ other. ordering_index (cmp other item)) items
  rises items item ascending =
      searchable_from_sorted total (λ x. x) items item
      (λ k d low below. ap is_lt (total.antisymm _ _ ∙ ap ordering_reverse (ascending k (k + 1) d (omega arith) below)))

  module _ (items : List T) (item : T) (place : ℕ) (within : place ≤ length items)
      (apart : IsPartitionPoint (λ other. cmp other item ≡ Less) (λ other. cmp other item ≡ Greater) items place) where
    -- an item that goes between those below it and those above it is not there
    pub absent : Holds cmp items item → ⊥
    absent (k, inside, equal) = ⊎_elim
        (λ below. less_equal (sym (apart.0 k item (omega arith) below) ∙ equal item))
        (λ from. greater_equal (sym (apart.1 k item from inside) ∙ equal item))
        (cases_lt k place)

    -- and leaves them ascending
    pub ascending-insert : IsAscending cmp items → IsAscending cmp (insert items place item)
    ascending-insert ascending i j d before inside =
        let size = length-insert items place item within in
        let new = insert items place item in
        let below : (k : ℕ) → k < place → get_or new k d ≡ get_or items k d =
        λ k lower. get_or-insert_below items place item d k lower within in
        let at : get_or (insert items place item) place d ≡ item = get_or-insert_at items place item d within in
        let above : (k : ℕ) → place < k → get_or (insert items place item) k d ≡ get_or items (k - 1) d =
        λ k higher. subst (λ q. get_or (insert items place item) q d ≡ get_or items (k - 1) d) {x = k - 1 + 1} (omega arith)
        (get_or-insert_above items place item d (k - 1) (omega arith) within) in
        let last : (k : ℕ) → place < k → k < length new → k - 1 < length items = λ k higher inside. omega arith in
        let from_below : i < place → cmp (get_or new i d) (get_or new j d) ≡ Less = λ lower.
        rw (below i lower) (⊎_elim
        (λ (both : j < place). rw (below j both) (ascending i j d before (omega arith)))
        (λ (from : place ≤ j). ⊎_elim
        (λ (higher : place < j). rw (above j higher) (ascending i (j - 1) d (omega arith) (last j higher inside)))
        (λ (here : j ≤ place). let same : j ≡ place = omega arith in rw (same, at) (apart.0 i d (omega arith) lower))
        (cases_lt place j))
        (cases_lt j place)) in
        let from_here : place ≤ i → cmp (get_or new i d) (get_or new j d) ≡ Less = λ from.
        rw (above j (omega arith)) (⊎_elim
        (λ (higher : place < i). rw (above i higher) (ascending (i - 1) (j - 1) d (omega arith) (last j (omega arith) inside)))
        (λ (here : i ≤ place). let same : i ≡ place = omega arith in
        rw (same, at) (turned _ _ (apart.1 (j - 1) d (omega arith) (last j (omega arith) inside))))
        (cases_lt place i)) in
        ⊎_elim from_below from_here (cases_lt i place)

  -- a search that ends at an item or at a place says whether the item is there
  pub held : (items : List T) (item : T) (r : Result ℕ ℕ)
      → IfOk r (λ place. (place < length items) × HoldsAt (λ other. cmp other item ≡ Equal) items place)
      → IfErr r (λ place. (place ≤ length items)
      × IsPartitionPoint (λ other. cmp other item ≡ Less) (λ other. cmp other item ≡ Greater) items place)
      → IsTrue (is_ok r) ↔ Holds cmp items item
  held items item (Ok place) found none = ((λ yes. (place, found.0, found.1)), (λ holds. refl))
  held items item (Err place) found none = (
    (λ yes. absurd (true≢false (sym yes))),
    (λ holds. absurd (absent items item place none.0 none.1 holds)),
  )

  -- an item below one that is equal to this is below it
  pub below-equal : (x y item : T) → cmp x y ≡ Less → cmp y item ≡ Equal → cmp x item ≡ Less
  below-equal x y item less equal =
      let flipped : cmp item y ≡ Equal = total.antisymm item y ∙ ap ordering_reverse equal in
      let above : cmp item x ≡ Greater = total.congr item y x flipped ∙ total.antisymm y x ∙ ap ordering_reverse less in
      turned item x above
