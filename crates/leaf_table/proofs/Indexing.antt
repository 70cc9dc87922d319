-- The index beside the slots, through leases and burnings.
use Rattle.std.proofs.Common.{◌≡◌, ◌≢◌, ◌⊎◌, ◌↔◌, ℕ, zero, suc, ◌+◌, ◌%◌, ◌<◌, ◌≤◌, Bool, true, false, not, cond, List, [], ◌∷◌, ◌++◌, length, set, take, refl, sym, ◌∙◌, ap, subst, inl, inr, arith, true≢false}
use Rattle.std.specs.Ordering.{eq_by_cmp}
use Rattle.std.specs.List.{list_any, Contains}
use Rattle.std.specs.List.Sorted.{IsPermutation}
use Rattle.std.proofs.lemmas.Cmp.{eq_by_cmp_equiv}
use Rattle.std.proofs.lemmas.List.Elements.{Contains-append_left, Contains-push, Contains-push_cases}
use Rattle.std.proofs.lemmas.List.Sorted.{Contains-permutation, IsPermutation-sym}
use Rattle.std.proofs.lemmas.Map.Views.{Contains-from_any, list_any-from_Contains, tells_apart}
use Rattle.leaf_table.proofs.Orders.{gone, key_cmp, listed-exact, listed-total, pair_cmp}
use Rattle.sorted_list.proofs.Exact.{contains-holds}
use Rattle.sorted_list.specs.Sorted.{Holds, IsAscending}
use Rattle.std.proofs.lemmas.Bool.{cases_eq}
use Rattle.std.proofs.lemmas.List.{get_or-set_same, get_or-set_other, length-set}
use Rattle.std.proofs.lemmas.List.Sums.{count_by-le-length, count_by_more_no, count_by_more_yes, sum_by-set}
use Rattle.coalition_map.specs.Coalitions.{PlanNumbers, count_of}
use Rattle.leaf_table.specs.Index.{IsListed, IsThere, Listed, Lists}
use Rattle.slot_file.specs.State.{slot_in}
use Rattle.slot_file.specs.Copies.{is_free, taken_count}
use Rattle.slot_file.specs.declared.slot.Slot.{Slot}
use Rattle.slot_file.specs.declared.slot.Slot.TheVariants.{Free, Half, Full}

abbrev pub marks : Slot → ℕ
marks slot = cond (not (is_free slot)) 1 0

pub taken-set : (slots : List Slot) (leaf : ℕ) (slot : Slot) → leaf < length slots
    → taken_count (set slots leaf slot) + marks (slot_in slots leaf) ≡ taken_count slots + marks slot
taken-set slots leaf slot within = omega (arith, sum_by-set marks slots leaf slot Free within)

-- if one slot is free, not all are taken
pub taken-less : (slots : List Slot) (leaf : ℕ) → leaf < length slots → slot_in slots leaf ≡ Free → taken_count slots < length slots
taken-less slots leaf within free =
    let sums = taken-set slots leaf (Half []) within in
    let old : marks (slot_in slots leaf) ≡ 0 = ap marks free in
    let most = count_by-le-length (λ (slot : Slot). not (is_free slot)) (set slots leaf (Half [])) in
    omega (arith, sums, old, most, length-set slots leaf (Half []))

free≢half : (a : List ℕ) → ◌≡◌ {A = Slot} Free (Half a) → ⊥
free≢half a is = cc

pub half≢free : (a : List ℕ) → Half a ≢ Free
half≢free a is = free≢half a (sym is)

pub full≢half : (a b c : List ℕ) (moment : ℕ) → ◌≡◌ {A = Slot} (Full a b moment) (Half c) → ⊥
full≢half a b c moment is = cc

half-same : (a b : List ℕ) → ◌≡◌ {A = Slot} (Half a) (Half b) → a ≡ b
half-same a b is = cc

pub full≢free : (a b : List ℕ) (moment : ℕ) → ◌≡◌ {A = Slot} (Full a b moment) Free → ⊥
full≢free a b moment is = cc

contains-cons : (x : Listed) (xs : List Listed) (other : Listed) → Contains (x ∷ xs) other → (other ≡ x) ⊎ Contains xs other
contains-cons x xs other (zero, inside, is) = inl (sym is)
contains-cons x xs other (suc k, inside, is) = inr (k, omega arith, is)

cons-contains : (x : Listed) (xs : List Listed) (other : Listed) → (other ≡ x) ⊎ Contains xs other → Contains (x ∷ xs) other
cons-contains x xs other (inl same) = (0, omega arith, sym same)
cons-contains x xs other (inr (k, inside, is)) = (suc k, omega arith, is)

-- a lease that is not absent is there
contains-there : (leases : List Listed) (lease : Listed) → IsThere leases lease → Contains leases lease
contains-there leases lease is = found (list_any (eq_by_cmp (pair_cmp key_cmp) lease) leases) refl
  where
    found : (any : Bool) → list_any (eq_by_cmp (pair_cmp key_cmp) lease) leases ≡ any → Contains leases lease
    found true all = Contains-from_any (tells_apart listed-exact) lease leases all
    found false all =
        absurd (is (λ has. true≢false (sym (list_any-from_Contains (eq_by_cmp_equiv listed-total) lease leases has) ∙ all)))

module _ (plan : PlanNumbers) (slots : List Slot) (leaf : ℕ) (within : leaf < length slots) (slot : Slot) where
  abbrev made : List Slot
  made = set slots leaf slot

  size : length made ≡ length slots
  size = length-set slots leaf slot

  here : slot_in made leaf ≡ slot
  here = get_or-set_same slots leaf slot Free within

  there : (other : ℕ) → other ≢ leaf → slot_in made other ≡ slot_in slots other
  there other differs = get_or-set_other slots leaf other slot Free differs

  stays-listed : (lease : Listed) → IsListed plan slots lease → lease.1 ≢ leaf → IsListed plan made lease
  stays-listed lease is differs = record {
    within = omega (arith, is.within, size);
    own = is.own;
    half = there lease.1 differs ∙ is.half;
  }

module _ (plan : PlanNumbers) (slots : List Slot) (leaf : ℕ) (within : leaf < length slots) (id : List ℕ) (old new : List Listed) (lists : Lists plan slots old) where
  abbrev item : Listed
  item = ((leaf % count_of plan, id), leaf)

  -- a free leaf is leased
  pub lists-more : slot_in slots leaf ≡ Free → ((other : Listed) → Contains new other ↔ ((other ≡ item) ⊎ Contains old other))
      → length new ≤ length old + 1 → Lists plan (set slots leaf (Half id)) new
  lists-more free has more =
      let slot = Half id in
      let made = set slots leaf slot in
      let ours : IsListed plan made item = record {
        within = omega (arith, within, size plan slots leaf within slot);
        own = refl;
        half = here plan slots leaf within slot;
      } in
      record {
        listed = λ lease inside. elim ((has lease).0 inside) [
          | inl same ↦ subst (IsListed plan made) (sym same) ours
          | inr before ↦
              let is = lists.listed lease before in
              stays-listed plan slots leaf within slot lease is
              (λ same. free≢half lease.0.1 (sym free ∙ (ap (slot_in slots) (sym same) ∙ is.half)))
        ];
        complete = λ other a below half absent. elim (cases_eq other leaf) [
          | inl same ↦
              let same_id : id ≡ a = half-same id a (sym (here plan slots leaf within slot) ∙ (ap (slot_in made) (sym same) ∙ half)) in
              let is : ◌≡◌ {A = Listed} ((other % count_of plan, a), other) item = λ i. ((same i % count_of plan, sym same_id i), same i) in
              absent ((has _).1 (inl is))
          | inr differs ↦
              lists.complete other a (omega (arith, below, size plan slots leaf within slot))
              (sym (there plan slots leaf within slot other differs) ∙ half) (λ inside. absent ((has _).1 (inr inside)))
        ];
        few = omega (arith, more, lists.few, taken-set slots leaf slot within, ap marks free);
      }

  -- a leaf that was leased is burnt
  pub lists-less : IsAscending (pair_cmp key_cmp) old → (a b : List ℕ) (moment : ℕ) → slot_in slots leaf ≡ Half id
      → (Holds (pair_cmp key_cmp) old item → IsPermutation old (item ∷ new)) → length new ≤ length old
      → Lists plan (set slots leaf (Full a b moment)) new
  lists-less ascending a b moment half takes less =
      let slot = Full a b moment in
      let made = set slots leaf slot in
      -- the lease is there, since its slot is half
      let has = contains-there old item (lists.complete leaf id within half) in
      let moved = takes (contains-holds (pair_cmp key_cmp) listed-total old item has) in
      record {
        listed = λ lease inside.
            let before = Contains-permutation _ _ _ (IsPermutation-sym _ _ moved) (cons-contains item new lease (inr inside)) in
            let is = lists.listed lease before in
            stays-listed plan slots leaf within slot lease is (λ same.
            let same_id : id ≡ lease.0.1 = half-same id lease.0.1 (sym half ∙ (ap (slot_in slots) (sym same) ∙ is.half)) in
            let own : lease.0.0 ≡ leaf % count_of plan = sym is.own ∙ ap (λ (q : ℕ). q % count_of plan) same in
            let whole : lease ≡ item = λ i. ((own i, sym same_id i), same i) in
            gone (pair_cmp key_cmp) listed-total listed-exact item old new ascending moved (subst (Contains new) whole inside));
        complete = λ other c below is absent. elim (cases_eq other leaf) [
          | inl same ↦ full≢half a b c moment (sym (here plan slots leaf within slot) ∙ (ap (slot_in made) (sym same) ∙ is))
          | inr differs ↦
              lists.complete other c (omega (arith, below, size plan slots leaf within slot))
              (sym (there plan slots leaf within slot other differs) ∙ is)
              (λ inside. elim (contains-cons item new _ (Contains-permutation _ _ _ moved inside)) [
                | inl same ↦ differs (ap (λ (x : Listed). x.1) same)
                | inr kept ↦ absent kept
              ])
        ];
        few = omega (arith, less, lists.few, taken-set slots leaf slot within, ap marks half);
      }

-- what is there once an item was added at the end
pub pushed : (old : List Listed) (item other : Listed) → Contains (old ++ item ∷ []) other ↔ ((other ≡ item) ⊎ Contains old other)
pushed old item other = (
  (λ has. elim (Contains-push_cases old item other has) [ inl there ↦ inr there | inr same ↦ inl (sym same) ]),
  (λ cases. elim cases [
    | inl same ↦ subst (Contains (old ++ item ∷ [])) (sym same) (Contains-push old item)
    | inr there ↦ Contains-append_left old (item ∷ []) other there
  ]),
)

-- the leases of the first slots are listed
pub record ListsBelow (plan : PlanNumbers) (slots : List Slot) (end : ℕ) (leases : List Listed) : Type 0 where
  pub listed : (lease : Listed) → Contains leases lease → IsListed plan slots lease
  pub complete : (leaf : ℕ) (id : List ℕ) → leaf < end → slot_in slots leaf ≡ Half id
      → IsThere leases ((leaf % count_of plan, id), leaf)
  pub few : length leases ≤ taken_count (take end slots)
  pub within : length leases ≤ end

module _ (plan : PlanNumbers) (slots : List Slot) (end : ℕ) (inside : end < length slots) (old : List Listed) (below : ListsBelow plan slots end old) where
  pub below-half : (id : List ℕ) (new : List Listed) → slot_in slots end ≡ Half id
      → ((other : Listed) → Contains new other ↔ ((other ≡ ((end % count_of plan, id), end)) ⊎ Contains old other))
      → length new ≤ length old + 1 → ListsBelow plan slots (end + 1) new
  below-half id new half has more =
      let ours : IsListed plan slots ((end % count_of plan, id), end) = record { within = inside; own = refl; half = half } in
      let one = count_by_more_yes (λ (slot : Slot). not (is_free slot)) slots end Free inside (ap (λ (slot : Slot). not (is_free slot)) half) in
      record {
        listed = λ lease there. elim ((has lease).0 there) [
          | inl same ↦ subst (IsListed plan slots) (sym same) ours
          | inr before ↦ below.listed lease before
        ];
        complete = λ leaf a small is absent. elim (cases_eq leaf end) [
          | inl same ↦
              let same_id : id ≡ a = half-same id a (sym half ∙ (ap (slot_in slots) (sym same) ∙ is)) in
              let whole : ◌≡◌ {A = Listed} ((leaf % count_of plan, a), leaf) ((end % count_of plan, id), end) =
              λ i. ((same i % count_of plan, sym same_id i), same i) in
              absent ((has _).1 (inl whole))
          | inr differs ↦ below.complete leaf a (omega (arith, small, differs)) is (λ there. absent ((has _).1 (inr there)))
        ];
        few = omega (arith, more, below.few, one);
        within = omega (arith, more, below.within);
      }

  more-taken : (b : Bool) → not (is_free (slot_in slots end)) ≡ b → taken_count (take end slots) ≤ taken_count (take (end + 1) slots)
  more-taken true is = omega (arith, count_by_more_yes (λ (slot : Slot). not (is_free slot)) slots end Free inside is)
  more-taken false is = omega (arith, count_by_more_no (λ (slot : Slot). not (is_free slot)) slots end Free inside is)

  pub below-other : ((id : List ℕ) → slot_in slots end ≢ Half id) → ListsBelow plan slots (end + 1) old
  below-other other = record {
    listed = below.listed;
    complete = λ leaf a small is. elim (cases_eq leaf end) [
      | inl same ↦ absurd (other a (ap (slot_in slots) (sym same) ∙ is))
      | inr differs ↦ below.complete leaf a (omega (arith, small, differs)) is
    ];
    few = omega (arith, below.few, more-taken _ refl);
    within = omega (arith, below.within);
  }
