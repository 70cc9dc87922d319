-- Ascending items that are pairs of a key and a number, and ascending items of which one is taken out.
use Rattle.std.proofs.Common.{◌≡◌, ◌≢◌, ℕ, suc, ◌<◌, ◌≤◌, cond, Bool, true, false, ◌&&◌, nat_eq, List, [], ◌∷◌, length, get_or, sum_by, refl, sym, ◌∙◌, ap, ⊎_elim, arith}
use Rattle.std.specs.Cmp.{IsTotalOrder, tied_itself}
use Rattle.std.specs.List.{All, Contains}
use Rattle.std.specs.List.Sorted.{IsPermutation}
use Rattle.std.specs.Cmp.Lexicographic.{nat_list_cmp_total, nat_list_eq_equiv, pointwise, same_text, slice_cmp}
use Rattle.std.proofs.lemmas.Cmp.{nat_cmp_total, nat_eq_equiv, on_total, then_total}
use Rattle.std.specs.Ordering.{is_eq, nat_cmp, ordering_then}
use Rattle.std.specs.declared.cmp.Ordering.{Ordering}
use Rattle.std.specs.declared.cmp.Ordering.TheVariants.{Less, Equal, Greater}
use Rattle.std.proofs.lemmas.Bool.{cases_lt}
use Rattle.std.proofs.lemmas.Cmp.{ranked}
use Rattle.std.proofs.lemmas.List.Elements.{All-contains, at_from_Contains}
use Rattle.std.proofs.lemmas.List.Sorted.{sum_by-IsPermutation}
use Rattle.std.proofs.lemmas.List.Sums.{get_or-le-sum_by, sum_by-append}
use Rattle.std.proofs.lemmas.Map.Views.{exact_unsigned_eq}
use Rattle.std.proofs.lemmas.Map.Lookups.{CmpEqualImpliesEq, exact_bytes, exact_pairs, exact_unsigned}
use Rattle.sorted_list.specs.Sorted.{IsAscending, IsLeastFrom}

not-less : (leaf : ℕ) → nat_cmp leaf 0 ≢ Less
not-less leaf is = let below : leaf < 0 = ranked leaf 0 Less (sym is) in omega (arith, below)

abbrev pub pair_cmp : {K : Type 0} → (K → K → Ordering) → K × ℕ → K × ℕ → Ordering
pair_cmp P x y = ordering_then (P x.0 y.0) (nat_cmp x.1 y.1)

module _ {K : Type 0} (P : K → K → Ordering) (total : IsTotalOrder P) (exact : CmpEqualImpliesEq P) where
  key-same : (key : K) (leaf : ℕ) → pair_cmp P (key, leaf) (key, 0) ≢ Less
  key-same key leaf is = not-less leaf (ap (λ (o : Ordering). ordering_then o (nat_cmp leaf 0)) (sym (tied_itself total key)) ∙ is)

  between : (o : Ordering) (found : K × ℕ) (key : K) (leaf : ℕ) → P found.0 key ≡ o → ordering_then o (nat_cmp found.1 0) ≢ Less
      → ordering_then o (nat_cmp found.1 leaf) ≡ Less → (found.0 ≡ key) × (found.1 ≤ leaf)
  between Less found key leaf is reaches less = absurd (reaches refl)
  between Equal found key leaf is reaches less =
      let below : found.1 < leaf = ranked found.1 leaf Less (sym less) in
      (exact _ _ is, omega (arith, below))
  between Greater found key leaf is reaches less = absurd (cc)

  -- the least item from a key on stands for this key if one does, and then has its least number
  pub from-low : (items : List (K × ℕ)) (key : K) (found : K × ℕ) → IsAscending (pair_cmp P) items → IsLeastFrom (pair_cmp P) items (key, 0) found
      → (leaf : ℕ) → Contains items (key, leaf) → (found.0 ≡ key) × (found.1 ≤ leaf)
  from-low items key found ascending least leaf has =
      let at = at_from_Contains items (key, leaf) has in
      let k = at.0 in
      let item = at.2 found in
      let here = least.here found in
      ⊎_elim
      (λ (before : k < least.place).
      absurd (key-same key leaf (ap (λ (x : K × ℕ). pair_cmp P x (key, 0)) (sym item) ∙ least.lower k found (omega arith) before)))
      (λ (from : least.place ≤ k). ⊎_elim
      (λ (behind : least.place < k).
      let less : pair_cmp P found (key, leaf) ≡ Less = ap (λ (x : K × ℕ). pair_cmp P x (key, leaf)) (sym here)
      ∙ (ap (pair_cmp P (get_or items least.place found)) (sym item) ∙ ascending least.place k found behind at.1) in
      between (P found.0 key) found key leaf refl least.reaches less)
      (λ (at_most : k ≤ least.place).
      let same : k ≡ least.place = omega (arith, from, at_most) in
      let is : found ≡ (key, leaf) = sym here ∙ (ap (λ (q : ℕ). get_or items q found) (sym same) ∙ item) in
      (ap (λ (x : K × ℕ). x.0) is, omega (arith, ap (λ (x : K × ℕ). x.1) is)))
      (cases_lt least.place k))
      (cases_lt k least.place)

  pub none-low : (items : List (K × ℕ)) (key : K) → All (λ item. pair_cmp P item (key, 0) ≡ Less) items
      → (leaf : ℕ) → Contains items (key, leaf) → ⊥
  none-low items key all leaf has = key-same key leaf (All-contains (λ item. pair_cmp P item (key, 0) ≡ Less) items (key, leaf) all has)

unmarked : (o : Ordering) → o ≢ Equal → cond {A = ℕ} (is_eq o) 1 0 ≡ 0
unmarked Less differs = refl
unmarked Equal differs = absurd (differs refl)
unmarked Greater differs = refl

module _ {T : Type 0} (cmp : T → T → Ordering) (total : IsTotalOrder cmp) (exact : CmpEqualImpliesEq cmp) (item : T) where
  abbrev mark : T → ℕ
  mark x = cond (is_eq (cmp x item)) 1 0

  none-same : (xs : List T) → ((j : ℕ) (d : T) → j < length xs → cmp (get_or xs j d) item ≢ Equal) → sum_by mark xs ≡ 0
  none-same [] differs = refl
  none-same (x ∷ xs) differs =
      let here : mark x ≡ 0 = unmarked (cmp x item) (differs 0 x (omega arith)) in
      let rest = none-same xs (λ j d inside. differs (suc j) d (omega (arith, inside))) in
      let step = sum_by-append mark (x ∷ []) xs in
      omega (arith, here, rest, step)

  first-of : (x : T) (xs : List T) (o : Ordering) → cmp x item ≡ o → IsAscending cmp (x ∷ xs) → sum_by mark xs ≤ 1
      → sum_by mark (x ∷ xs) ≤ 1
  first-of x xs Less is ascending rest =
      let here : mark x ≡ 0 = ap (λ (o : Ordering). cond {A = ℕ} (is_eq o) 1 0) is in
      let step = sum_by-append mark (x ∷ []) xs in omega (arith, here, rest, step)
  first-of x xs Greater is ascending rest =
      let here : mark x ≡ 0 = ap (λ (o : Ordering). cond {A = ℕ} (is_eq o) 1 0) is in
      let step = sum_by-append mark (x ∷ []) xs in omega (arith, here, rest, step)
  first-of x xs Equal is ascending rest =
      let here : mark x ≡ 1 = ap (λ (o : Ordering). cond {A = ℕ} (is_eq o) 1 0) is in
      let none = none-same xs (λ j d inside equal.
      let less : cmp x (get_or xs j d) ≡ Less = ascending 0 (suc j) d (omega arith) (omega (arith, inside)) in
      let same : get_or xs j d ≡ x = exact _ _ equal ∙ sym (exact _ _ is) in
      let tied = tied_itself total x in
      let itself : cmp x x ≡ Less = ap (cmp x) (sym same) ∙ less in cc) in
      let step = sum_by-append mark (x ∷ []) xs in
      omega (arith, here, none, step)

  at-most-one : (xs : List T) → IsAscending cmp xs → sum_by mark xs ≤ 1
  at-most-one [] ascending = omega arith
  at-most-one (x ∷ xs) ascending =
      first-of x xs (cmp x item) refl ascending
      (at-most-one xs (λ i j d before inside. ascending (suc i) (suc j) d (omega (arith, before)) (omega (arith, inside))))

  -- an item that is taken out of ascending ones is no longer there
  pub gone : (old new : List T) → IsAscending cmp old → IsPermutation old (item ∷ new) → Contains new item → ⊥
  gone old new ascending moved has =
      let at = at_from_Contains new item has in
      let one : mark item ≡ 1 = ap (λ (o : Ordering). cond {A = ℕ} (is_eq o) 1 0) (tied_itself total item) in
      let inside : mark item ≡ mark (get_or new at.0 item) = ap mark (sym (at.2 item)) in
      let least = get_or-le-sum_by mark new at.0 item at.1 in
      let sums = sum_by-IsPermutation mark old (item ∷ new) moved in
      let most = at-most-one old ascending in
      let step = sum_by-append mark (item ∷ []) new in
      omega (arith, one, inside, least, sums, most, step)

-- a coalition and a message's id
abbrev pub key_cmp : ℕ × List ℕ → ℕ × List ℕ → Ordering
key_cmp x y = ordering_then (nat_cmp x.0 y.0) (slice_cmp nat_cmp x.1 y.1)

pub key-total : IsTotalOrder key_cmp
key-total = then_total (on_total (λ (x : ℕ × List ℕ). x.0) nat_cmp_total) (on_total (λ (x : ℕ × List ℕ). x.1) nat_list_cmp_total)

pub key-exact : CmpEqualImpliesEq key_cmp
key-exact = exact_pairs nat_cmp (slice_cmp nat_cmp) exact_unsigned exact_bytes

-- and a leaf
pub listed-total : IsTotalOrder (pair_cmp key_cmp)
listed-total =
    then_total (on_total (λ (x : (ℕ × List ℕ) × ℕ). x.0) key-total) (on_total (λ (x : (ℕ × List ℕ) × ℕ). x.1) nat_cmp_total)

pub listed-exact : CmpEqualImpliesEq (pair_cmp key_cmp)
listed-exact = exact_pairs key_cmp nat_cmp key-exact exact_unsigned

-- a test of two keys
abbrev same_keys : ℕ × List ℕ → ℕ × List ℕ → Bool
same_keys x y = nat_eq x.0 y.0 && pointwise nat_eq x.1 y.1

both : (a b : Bool) → (a && b) ≡ true → (a ≡ true) × (b ≡ true)
both true b is = (refl, is)
both false b is = absurd (cc)

pub key-is : (x y : ℕ × List ℕ) → same_keys x y ≡ true → x ≡ y
key-is x y is =
    let parts = both (nat_eq x.0 y.0) (pointwise nat_eq x.1 y.1) is in
    let first : x.0 ≡ y.0 = exact_unsigned_eq x.0 y.0 parts.0 in
    let second : x.1 ≡ y.1 = same_text x.1 y.1 (sym parts.1) in
    λ i. (first i, second i)

key-itself : (x : ℕ × List ℕ) → same_keys x x ≡ true
key-itself x = rw (nat_eq_equiv.refl x.0, nat_list_eq_equiv.refl x.1) refl

pub key-differs : (x y : ℕ × List ℕ) → same_keys x y ≡ false → x ≢ y
key-differs x y is same =
    let itself : same_keys x y ≡ true = ap (same_keys x) (sym same) ∙ key-itself x in cc
