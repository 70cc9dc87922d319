-- The walk over the leaves of a coalition to its least free one.
use Rattle.std.proofs.Common.{◌≡◌, ◌≢◌, ℕ, ◌^◌, ◌+◌, ◌-◌, ◌%◌, ◌<◌, ◌≤◌, nat_eq, true, false, List, length, get_or, set, Option, None, Some, inl, inr, refl, sym, ◌∙◌, ap, subst, arith, ⊎_elim}
use Rattle.std.specs.Prelude.{◌↔◌, IfSome, IsNone, MatchOption}
use Rattle.std.specs.Option.{option_eq}
use Rattle.std.proofs.lemmas.Bool.{cases_eq, cases_lt}
use Rattle.std.proofs.lemmas.Cmp.{nat_eq_equiv}
use Rattle.std.proofs.lemmas.Map.Views.{exact_unsigned_eq}
use Rattle.std.proofs.lemmas.List.{get_or-set_other, get_or-set_same}
use Rattle.coalition_map.specs.Coalitions.{IsLeafAfter, PlanNumbers, count_of}
use Rattle.leaf_table.specs.Entries.{IsFree}
use Rattle.leaf_table.specs.Index.{AreFree, IsFound, IsPassed}
use Rattle.leaf_table.specs.Slots.{use_of_slot}
use Rattle.leaf_table.proofs.Found.{free-use}
use Rattle.slot_file.specs.State.{slot_in}
use Rattle.slot_file.specs.declared.slot.Slot.{Slot}
use Rattle.slot_file.specs.declared.slot.Slot.TheVariants.{Free}

-- how many leaves are left
abbrev pub left_of : ℕ → Option ℕ → ℕ
left_of count None = 0
left_of count (Some leaf) = count - leaf

module _ (plan : PlanNumbers) (slots : List Slot) (c : ℕ) where
  -- the walk stands at a leaf of the coalition, and none before it is free; or none at all is
  abbrev pub Seeks : Option ℕ → Type 0
  Seeks next = MatchOption next (IsFound plan slots c IsFree None)
      (λ leaf. IsLeafAfter plan c None leaf
      × ((other : ℕ) → IsLeafAfter plan c None other → other < leaf → slot_in slots other ≢ Free))

  -- the walk stops at a free leaf
  pub stops : (leaf : ℕ) → Seeks (Some leaf) → slot_in slots leaf ≡ Free → IsFound plan slots c IsFree (Some leaf)
  stops leaf at free = record {
    own = at.0;
    used = ap use_of_slot free;
    least = λ other is used. ⊎_elim
        (λ (before : other < leaf). absurd (at.1 other is before (free-use (slot_in slots other) used)))
        (λ (from : leaf ≤ other). from)
        (cases_lt other leaf);
  }

  -- and goes on from another
  pub passes : (leaf : ℕ) → Seeks (Some leaf) → slot_in slots leaf ≢ Free → IsPassed plan slots c leaf
  passes leaf at taken other is upto free = ⊎_elim
      (λ (before : other < leaf). at.1 other is before free)
      (λ (from : leaf ≤ other). let same : other ≡ leaf = omega (arith, upto, from) in taken (ap (slot_in slots) (sym same) ∙ free))
      (cases_lt other leaf)

  -- a free leaf is none of those that were passed
  later-or : (after : Option ℕ) → IfSome after (IsPassed plan slots c) → (leaf : ℕ) → IsLeafAfter plan c None leaf → slot_in slots leaf ≡ Free
      → IsLeafAfter plan c after leaf
  later-or None passed leaf is free = is
  later-or (Some last) passed leaf is free = record {
    leaf = is.leaf;
    own = is.own;
    later = ⊎_elim
        (λ (before : last < leaf). before)
        (λ (from : leaf ≤ last). absurd (passed leaf is from free))
        (cases_lt last leaf);
  }

  -- the walk goes to the next leaf
  pub seeks : (after next : Option ℕ) → IfSome after (IsPassed plan slots c) → IfSome next (λ q. IsLeafAfter plan c after q)
      → IfSome next (λ q. (r : ℕ) → IsLeafAfter plan c after r → q ≤ r) → (IsNone next ↔ ((q : ℕ) → ¬ IsLeafAfter plan c after q)) → Seeks next
  seeks after None passed own least none = λ leaf is used. none.0 refl leaf (later-or after passed leaf is (free-use (slot_in slots leaf) used))
  seeks after (Some next) passed own least none = (
    record { leaf = own.leaf; own = own.own; later = tt },
    λ other is before free. let from = least other (later-or after passed other is free) in omega (arith, before, from),
  )

  pub less : (leaf : ℕ) (next : Option ℕ) → leaf < 2 ^ plan.h → IfSome next (λ q. IsLeafAfter plan c (Some leaf) q)
      → left_of (2 ^ plan.h) next < left_of (2 ^ plan.h) (Some leaf)
  less leaf None within own = omega (arith, within)
  less leaf (Some next) within own = omega (arith, within, own.leaf, own.later)

module _ (plan : PlanNumbers) (slots : List Slot) (count : ℕ) (free : List (Option ℕ)) where
  pub all-free : ((c : ℕ) → c < count → IsFound plan slots c IsFree (get_or free c None)) → AreFree plan slots count free
  all-free all = record {
    least = λ c leaf below is. subst (IsFound plan slots c IsFree) is (all c below);
    none = λ c below is. subst (IsFound plan slots c IsFree) is (all c below);
  }

  module _ (are : AreFree plan slots count free) where
    found-free : (c : ℕ) → c < count → (found : Option ℕ) → get_or free c None ≡ found → IsFound plan slots c IsFree found
    found-free c below None is = are.none c below is
    found-free c below (Some leaf) is = are.least c leaf below is

    pub free-at : (c : ℕ) → c < count → IsFound plan slots c IsFree (get_or free c None)
    free-at c below = found-free c below (get_or free c None) refl

    pub fewer-free : (least : ℕ) → least ≤ count → AreFree plan slots least free
    fewer-free few upto = record {
      least = λ c leaf below is. are.least c leaf (omega (arith, below, upto)) is;
      none = λ c below is. are.none c (omega (arith, below, upto)) is;
    }

    -- and that of one more coalition
    pub more-free : count < length free → (found : Option ℕ) → IsFound plan slots count IsFree found → AreFree plan slots (count + 1) (set free count found)
    more-free within found is = record {
      least = λ c leaf below here. subst (IsFound plan slots c IsFree) here (each c below);
      none = λ c below here. subst (IsFound plan slots c IsFree) here (each c below);
    }
      where
        each : (c : ℕ) → c < count + 1 → IsFound plan slots c IsFree (get_or (set free count found) c None)
        each c below = elim (cases_eq c count) [
          | inl same ↦
              subst (λ (k : ℕ). IsFound plan slots k IsFree (get_or (set free count found) k None)) (sym same)
              (subst (IsFound plan slots count IsFree) (sym (get_or-set_same free count found None within)) is)
          | inr differs ↦
              subst (IsFound plan slots c IsFree) (sym (get_or-set_other free count c found None differs))
              (free-at c (omega (arith, below, differs)))
        ]

module _ (plan : PlanNumbers) (slots : List Slot) (leaf : ℕ) (within : leaf < length slots) (slot : Slot) (taken : slot ≢ Free) where
  abbrev made : List Slot
  made = set slots leaf slot

  here : slot_in made leaf ≢ Free
  here free = taken (sym (get_or-set_same slots leaf slot Free within) ∙ free)

  there : (other : ℕ) → other ≢ leaf → slot_in made other ≡ slot_in slots other
  there other differs = get_or-set_other slots leaf other slot Free differs

  -- what is free now was free before
  before : (other : ℕ) → use_of_slot (slot_in made other) ≡ IsFree → use_of_slot (slot_in slots other) ≡ IsFree
  before other used = elim (cases_eq other leaf) [
    | inl same ↦ absurd (here (ap (slot_in made) (sym same) ∙ free-use (slot_in made other) used))
    | inr differs ↦ ap use_of_slot (sym (there other differs)) ∙ used
  ]

  -- another leaf that was the least free one still is
  pub stays-found : (c : ℕ) (found : Option ℕ) → found ≢ Some leaf → IsFound plan slots c IsFree found → IsFound plan made c IsFree found
  stays-found c None differs none = λ other own used. none other own (before other used)
  stays-found c (Some least) differs is = record {
    own = is.own;
    used = ap use_of_slot (there least (λ same. differs (ap Some same))) ∙ is.used;
    least = λ other own used. is.least other own (before other used);
  }

  -- if the leaf was the least free one, none up to it is free now
  pub passes-taken : (c : ℕ) → IsFound plan slots c IsFree (Some leaf) → IsPassed plan made c leaf
  passes-taken c least other own upto free = elim (cases_eq other leaf) [
    | inl same ↦ here (ap (slot_in made) (sym same) ∙ free)
    | inr differs ↦
        let from = least.least other own (before other (ap use_of_slot free)) in omega (arith, upto, from, differs)
  ]

  module _ (free : List (Option ℕ)) (are : AreFree plan slots (count_of plan) free) where
    -- a leaf of one coalition is taken
    pub free-taken : (new : List (Option ℕ)) → IsFound plan made (leaf % count_of plan) IsFree (get_or new (leaf % count_of plan) None)
        → ((c : ℕ) → c ≢ leaf % count_of plan → get_or new c None ≡ get_or free c None) → AreFree plan made (count_of plan) new
    free-taken new ours others = all-free plan made (count_of plan) new (λ c below. elim (cases_eq c (leaf % count_of plan)) [
      | inl same ↦ subst (λ (k : ℕ). IsFound plan made k IsFree (get_or new k None)) (sym same) ours
      | inr differs ↦
          subst (IsFound plan made c IsFree) (sym (others c differs))
          (stays-found c (get_or free c None)
          (λ is. let least = are.least c leaf below is in differs (sym least.own.own))
          (free-at plan slots (count_of plan) free are c below))
    ])

    -- if the leaf was not free before, the least free leaves stay as they are
    pub free-kept : slot_in slots leaf ≢ Free → AreFree plan made (count_of plan) free
    free-kept other = all-free plan made (count_of plan) free (λ c below.
        stays-found c (get_or free c None)
        (λ is. let least = are.least c leaf below is in other (free-use (slot_in slots leaf) least.used))
        (free-at plan slots (count_of plan) free are c below))

-- a test of two leaves
pub same-leaf : (found : Option ℕ) (leaf : ℕ) → option_eq nat_eq found (Some leaf) ≡ true → found ≡ Some leaf
same-leaf None leaf is = absurd (cc)
same-leaf (Some other) leaf is = ap Some (exact_unsigned_eq other leaf is)

pub other-leaf : (found : Option ℕ) (leaf : ℕ) → option_eq nat_eq found (Some leaf) ≡ false → found ≢ Some leaf
other-leaf found leaf is same =
    let itself : option_eq nat_eq found (Some leaf) ≡ true = ap (λ (o : Option ℕ). option_eq nat_eq o (Some leaf)) same ∙ nat_eq_equiv.refl leaf in cc
