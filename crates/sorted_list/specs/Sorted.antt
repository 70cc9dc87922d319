-- Items in ascending order.
use Rattle.std.specs.Prelude.{◌≡◌, ◌≢◌, ◌<◌, ℕ, List, ◌∷◌, length, slice_index_or}
use Rattle.std.specs.List.{AllWithin, HoldsAt}
use Rattle.std.specs.List.Sorted.{IsPermutation}
use Rattle.std.specs.declared.cmp.Ordering.{Ordering}
use Rattle.std.specs.declared.cmp.Ordering.TheVariants.{Less, Equal}

-- the items, and how many there is room for
pub record SortedItems (T : Type 0) : Type 0 where
  pub items : List T
  pub room : ℕ

-- each item is below all that follow it, so no two are equal
abbrev pub IsAscending : {T : Type 0} → (T → T → Ordering) → List T → Type 0
IsAscending {T} cmp items = (i j : ℕ) (d : T) → i < j → j < length items
    → cmp (slice_index_or items i d) (slice_index_or items j d) ≡ Less

-- one of the items is equal to this one
abbrev pub Holds : {T : Type 0} → (T → T → Ordering) → List T → T → Type 0
Holds cmp items item = (k : ℕ) × (k < length items) × HoldsAt (λ other. cmp other item ≡ Equal) items k

-- the least of the items that are not below this one
pub record IsLeastFrom {T : Type 0} (cmp : T → T → Ordering) (items : List T) (low found : T) : Type 0 where
  pub place : ℕ
  pub inside : place < length items
  pub here : HoldsAt (λ other. other ≡ found) items place
  pub lower : AllWithin (λ other. cmp other low ≡ Less) items 0 place
  pub reaches : cmp found low ≢ Less

-- the item that is equal to this one was taken out
abbrev pub Takes : {T : Type 0} → (T → T → Ordering) → List T → T → List T → Type 0
Takes {T} cmp old item new = (taken : T) × (cmp taken item ≡ Equal) × IsPermutation old (taken ∷ new)
