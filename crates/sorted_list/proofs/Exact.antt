-- Items that the order tells all apart: one is equal to this one if this one is among them.
use Rattle.std.proofs.Common.{◌≡◌, ◌⊎◌, ◌↔◌, zero, suc, Bool, true, false, IsTrue, List, ◌∷◌, inl, inr, refl, sym, arith}
use Rattle.std.specs.Cmp.{IsTotalOrder, tied_itself}
use Rattle.std.specs.List.{Contains}
use Rattle.std.specs.declared.cmp.Ordering.{Ordering}
use Rattle.std.specs.List.Sorted.{IsPermutation}
use Rattle.std.proofs.lemmas.List.Elements.{Contains-from_at, at_from_Contains}
use Rattle.std.proofs.lemmas.List.Sorted.{Contains-permutation, IsPermutation-sym}
use Rattle.std.proofs.lemmas.Map.Lookups.{CmpEqualImpliesEq}
use Rattle.sorted_list.specs.Sorted.{Holds}

module _ {T : Type 0} (cmp : T → T → Ordering) (total : IsTotalOrder cmp) where
  pub contains-holds : (items : List T) (item : T) → Contains items item → Holds cmp items item
  contains-holds items item has =
      let at = at_from_Contains items item has in
      (at.0, at.1, λ d. rw (at.2 d) (tied_itself total item))

contains-cons : {T : Type 0} (x : T) (xs : List T) (other : T) → Contains (x ∷ xs) other → (other ≡ x) ⊎ Contains xs other
contains-cons x xs other (zero, inside, is) = inl (sym is)
contains-cons x xs other (suc k, inside, is) = inr (k, omega arith, is)

cons-contains : {T : Type 0} (x : T) (xs : List T) (other : T) → (other ≡ x) ⊎ Contains xs other → Contains (x ∷ xs) other
cons-contains x xs other (inl same) = (0, omega arith, sym same)
cons-contains x xs other (inr (k, inside, is)) = (suc k, omega arith, is)

module _ {T : Type 0} (cmp : T → T → Ordering) (exact : CmpEqualImpliesEq cmp) where
  pub holds-contains : (items : List T) (item : T) → Holds cmp items item → Contains items item
  holds-contains items item (k, inside, equal) = Contains-from_at items item (k, inside, λ d. exact _ _ (equal d))

  -- what is there once an item was added, or was found
  pub contains-added : (added : Bool) (old new : List T) (item : T) → (IsTrue added → IsPermutation (item ∷ old) new)
      → (added ≡ false → Holds cmp old item × (new ≡ old)) → (other : T)
      → Contains new other ↔ ((other ≡ item) ⊎ Contains old other)
  contains-added true old new item moved there other = (
    (λ has. contains-cons item old other (Contains-permutation _ _ _ (IsPermutation-sym _ _ (moved refl)) has)),
    (λ cases. Contains-permutation _ _ _ (moved refl) (cons-contains item old other cases)),
  )
  contains-added false old new item moved there other =
      let found = there refl in
      let has : Contains old item = holds-contains old item found.0 in
      rw found.1 ((λ there. inr there), (λ cases. elim cases [ inl same ↦ rw same has | inr there ↦ there ]))
