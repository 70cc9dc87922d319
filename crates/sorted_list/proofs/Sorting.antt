-- What a sort and a drop of equal items leave.
use Rattle.std.proofs.Common.{◌≡◌, Bool, true, List, refl, sym, ◌∙◌, ap, true≢false}
use Rattle.std.specs.Cmp.{IsEquivalence, IsTotalOrder}
use Rattle.std.specs.List.{Contains, dedup}
use Rattle.std.specs.List.Sorted.{IsSorted}
use Rattle.std.specs.Ordering.{eq_by_cmp, is_eq, ordering_reverse}
use Rattle.std.specs.declared.cmp.Ordering.{Ordering}
use Rattle.std.specs.declared.cmp.Ordering.TheVariants.{Less, Equal, Greater}
use Rattle.std.proofs.lemmas.List.Elements.{at_from_Contains}
use Rattle.std.proofs.lemmas.List.Kept.{Any-dedup, IsStrictlySortedBy-dedup}
use Rattle.std.proofs.lemmas.Map.Keys.{Less-from_sorted}
use Rattle.sorted_list.specs.Sorted.{Holds, IsAscending}

equal-of : (o : Ordering) → is_eq o ≡ true → o ≡ Equal
equal-of Less is = absurd (true≢false (sym is))
equal-of Equal is = refl
equal-of Greater is = absurd (true≢false (sym is))

module _ {T : Type 0} (cmp : T → T → Ordering) (total : IsTotalOrder cmp) (E : T → T → Bool) (ties : (x y : T) → E x y ≡ eq_by_cmp cmp x y) where
  -- items in order, with no two equal ones beside each other, ascend
  pub ascending-dedup : (items : List T) → IsSorted cmp items → IsAscending cmp (dedup E items)
  ascending-dedup items sorted i j d before inside =
      Less-from_sorted cmp (dedup E items) i j d (IsStrictlySortedBy-dedup total ties items sorted) before inside

  -- of each item an equal one stays
  pub holds-dedup : IsEquivalence E → (items : List T) (item : T) → Contains items item → Holds cmp (dedup E items) item
  holds-dedup same items item has =
      let any = Any-dedup same items item has in
      let at = at_from_Contains (dedup E items) any.1 (any.0, any.2, any.3) in
      let equal : cmp item any.1 ≡ Equal = equal-of _ (sym (ties item any.1) ∙ any.4) in
      let turned : cmp any.1 item ≡ Equal = total.antisymm _ _ ∙ ap ordering_reverse equal in
      (at.0, at.1, λ d. ap (λ (x : T). cmp x item) (at.2 d) ∙ turned)
