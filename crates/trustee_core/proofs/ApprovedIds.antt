-- Ids in a list of approved messages.
use Rattle.std.proofs.Common.{◌≡◌, ℕ, Bool, true, false, ◌||◌, IsTrue, List, ◌∷◌, nat_eq, refl, sym}
use Rattle.std.specs.List.{Contains}
use Rattle.std.specs.List.Sorted.{IsPermutation}
use Rattle.std.specs.Cmp.Lexicographic.{pointwise, nat_list_cmp_total, nat_list_eq_equiv, same_text, slice_cmp}
use Rattle.std.specs.Ordering.{nat_cmp}
use Rattle.std.proofs.lemmas.List.Sorted.{list_any-IsPermutation}
use Rattle.std.proofs.lemmas.Map.Lookups.{exact_bytes}
use Rattle.std.proofs.lemmas.Map.Views.{Contains-from_any, list_any-from_Contains}
use Rattle.sorted_list.specs.Sorted.{Holds}
use Rattle.sorted_list.proofs.Exact.{contains-holds, holds-contains}
use Rattle.trustee_core.specs.Approved.{is_in}

pub is-same : (xs ys : List ℕ) → pointwise nat_eq xs ys ≡ true → xs ≡ ys
is-same xs ys same = same_text xs ys (sym same)

pub in-contains : (ids : List (List ℕ)) (id : List ℕ) → is_in ids id ≡ true → Contains ids id
in-contains ids id found = Contains-from_any is-same id ids found

pub contains-in : (ids : List (List ℕ)) (id : List ℕ) → Contains ids id → is_in ids id ≡ true
contains-in ids id has = list_any-from_Contains nat_list_eq_equiv id ids has

told : (a b : Bool) → (a ≡ true → b ≡ true) → (b ≡ true → a ≡ true) → a ≡ b
told true b to from = sym (to refl)
told false true to from = from refl
told false false to from = refl

pub held-in : (ids : List (List ℕ)) (id : List ℕ) (held : Bool)
    → (IsTrue held → Holds (slice_cmp nat_cmp) ids id) → (Holds (slice_cmp nat_cmp) ids id → IsTrue held)
    → held ≡ is_in ids id
held-in ids id held to from =
    told held (is_in ids id) (λ found. contains-in ids id (holds-contains _ exact_bytes ids id (to found)))
    (λ found. from (contains-holds _ nat_list_cmp_total ids id (in-contains ids id found)))

pub in-added : (added : Bool) (old new : List (List ℕ)) (id : List ℕ) → (IsTrue added → IsPermutation (id ∷ old) new)
    → (added ≡ false → Holds (slice_cmp nat_cmp) old id × (new ≡ old)) → (other : List ℕ)
    → is_in new other ≡ (pointwise nat_eq other id || is_in old other)
in-added true before new id moved there other = sym (list_any-IsPermutation (pointwise nat_eq other) (id ∷ before) new (moved refl))
in-added false before new id moved there other =
    let found = there refl in
    let has = holds-contains _ exact_bytes before id found.0 in
    let already : pointwise nat_eq other id ≡ true → is_in before other ≡ true =
    λ same. rw (is-same other id same) (contains-in before id has) in
    rw found.1 (absorbed (pointwise nat_eq other id) (is_in before other) already)
  where
    absorbed : (a b : Bool) → (a ≡ true → b ≡ true) → b ≡ (a || b)
    absorbed true b so = so refl
    absorbed false b so = refl
