-- A session that takes steps until it has ended.
use Rattle.std.proofs.Common.{◌≡◌, ◌≢◌, ◌<◌, ◌≤◌, ◌+◌, ◌==◌, ℕ, zero, suc, false, if◌then◌else◌, List, [], All, length, get_or, inl, inr, refl, ◌∙◌, subst, arith}
use Rattle.std.proofs.lemmas.Bool.Decides.{nat_tests}
use Rattle.leaf_table.specs.Entries.{IsLeased, LeafUse}
use Rattle.opening_journal.specs.Entries.{LeafState}
use Rattle.reference_value.specs.Dealing.{Dealing}
use Rattle.drill.specs.Courses.{AreFinished, HasEnded, HasSigned, IsGoing, IsGood, IsWell, Stepped, next_step, steps_of, uses_of}
use Rattle.drill_trustees.specs.Trustees.{leaf_at}
use Rattle.drill.specs.Ids.{id_of}
use Rattle.drill.specs.declared.openings.Opening.{Opening}
use Rattle.drill.specs.declared.desk.Desk.{Desk}
use Rattle.drill.specs.declared.seat.Seat.{Seat as Place}
use Rattle.drill.specs.declared.seat.Seat.TheVariants.{Refused, Running, Signed, Waiting}
use Rattle.drill.specs.declared.state.Asks.{Asks}
use Rattle.drill.specs.declared.state.Drill.{Drill}
use Rattle.drill.specs.declared.tally.Tally.{Tally}
use Rattle.drill.proofs.Following.{few-steps}
use Rattle.drill.proofs.Seated.{get_or-any}

-- session i has taken at least `taken` steps since it began to finish
pub record AtStep (desk : Desk) (d : Dealing) (extra i : ℕ) (old now : Drill) (tally : Tally) (taken : ℕ) : Type 0 where
  pub well : IsWell desk d extra now tally
  pub least : (none : Place) → taken ≤ steps_of (get_or now.seats.items i none)
  pub others : (j : ℕ) (none : Place) → j ≢ i → get_or now.seats.items j none ≡ get_or old.seats.items j none

step-more : (place : Place) (n : ℕ) → n ≤ steps_of place → n < 5 → n + 1 ≤ next_step place
step-more Waiting n low few = omega arith
step-more (Running s) n low few = omega arith
step-more (Signed leaf) n low few = omega arith
step-more Refused n low few = omega arith

pub one-more : (desk : Desk) (d : Dealing) (extra i : ℕ) (old now next : Drill) (tally after : Tally) (asks : Asks) (taken : ℕ) → AtStep desk d extra i old now tally taken → Stepped desk d i now next asks
    → taken < 5 → after.granted ≡ tally.granted + asks.granted → after.cuts ≡ tally.cuts + asks.cut → after.asks ≡ tally.asks + asks.put → AtStep desk d extra i old next after (taken + 1)
one-more desk d extra i old now next tally after asks taken at step few granted cuts put =
    let a = at.well.parts in
    let b = step.stays.parts in
    let e = at.well.taken in
    let f = step.taken in
    record {
      well = record { good = step.stays.good; parts = omega arith; taken = omega arith };
      least = λ none. let more = step-more (get_or now.seats.items i none) taken (at.least none) few in let goes = step.goes_on none in omega arith;
      others = λ j none e. step.others j none e ∙ at.others j none e;
    }

ended-of : (desk : Desk) (d : Dealing) (i : ℕ) (uses : ℕ → LeafUse) (leaves : ℕ → ℕ → LeafState) (place : Place) → IsGoing desk d i uses leaves place → 5 ≤ steps_of place → HasEnded place
ended-of desk d i uses leaves Waiting going low = absurd (omega arith)
ended-of desk d i uses leaves (Running s) going low = let few = few-steps desk d i uses leaves s going in absurd (omega arith)
ended-of desk d i uses leaves (Signed leaf) going low = tt
ended-of desk d i uses leaves Refused going low = tt

pub all-ended : (desk : Desk) (d : Dealing) (extra : ℕ) (drill : Drill) (tally : Tally) → AreFinished desk d extra (length drill.seats.items) drill tally → All HasEnded drill.seats.items
all-ended desk d extra drill tally f = λ k none inside.
    ended-of desk d k (uses_of drill.table) (leaf_at drill.trustees) (get_or drill.seats.items k none) (f.well.good.seats k none inside) (f.ended k none inside)

-- ---- openings, once all sessions have ended

leased-signed : (desk : Desk) (d : Dealing) (i : ℕ) (uses : ℕ → LeafUse) (leaves : ℕ → ℕ → LeafState) (q : ℕ) → q < 32 → uses q ≡ IsLeased (id_of i)
    → (place : Place) → IsGoing desk d i uses leaves place → HasEnded place → HasSigned place
leased-signed desk d i uses leaves q within leased Waiting going ended = absurd ended
leased-signed desk d i uses leaves q within leased (Running s) going ended = absurd ended
leased-signed desk d i uses leaves q within leased (Signed leaf) going ended = tt
leased-signed desk d i uses leaves q within leased Refused going ended = absurd (going.1 q within leased)

no-opening : Opening
no-opening = record { member = 0; leaf = 0; c = []; digest = [] }

-- a session that has signed
pub record Signer (seats : List Place) : Type 0 where
  pub session : ℕ
  pub within : session < length seats
  pub signed : (none : Place) → HasSigned (get_or seats session none)

-- if something is noted, a session has signed
pub signer : (desk : Desk) (d : Dealing) (drill : Drill) → IsGood desk d drill → All HasEnded drill.seats.items → 0 < length drill.openings.list.items → Signer drill.seats.items
signer desk d drill good ended some =
    let o = good.openings.each 0 no-opening some in
    record {
      session = o.session;
      within = o.within;
      signed = λ none.
          leased-signed desk d o.session (uses_of drill.table) (leaf_at drill.trustees) _ o.leaf o.leased (get_or drill.seats.items o.session none)
          (good.seats o.session none o.within) (ended o.session none o.within);
    }

-- the first session has signed, or found each leaf of its coalition leased for one that has
pub first-signs : (desk : Desk) (d : Dealing) (drill : Drill) → IsGood desk d drill → All HasEnded drill.seats.items → 0 < length drill.seats.items → Signer drill.seats.items
first-signs desk d drill good ended some =
    by-place (get_or drill.seats.items 0 Refused) refl (good.seats 0 Refused some) (ended 0 Refused some)
  where
    by-place : (place : Place) → place ≡ get_or drill.seats.items 0 Refused → IsGoing desk d 0 (uses_of drill.table) (leaf_at drill.trustees) place → HasEnded place → Signer drill.seats.items
    by-place Waiting is going has = absurd has
    by-place (Running s) is going has = absurd has
    by-place (Signed leaf) is going has = record { session = 0; within = some; signed = λ none. subst HasSigned (is ∙ get_or-any drill.seats.items 0 Refused none some) tt }
    by-place Refused is going has = elim (good.taken 0 (omega arith)) [
      | inl free ↦ absurd (going.0 0 (omega arith) refl free)
      | inr by ↦ record {
        session = by.session;
        within = by.within;
        signed = λ none.
            leased-signed desk d by.session (uses_of drill.table) (leaf_at drill.trustees) 0 (omega arith) by.leased (get_or drill.seats.items by.session none)
            (good.seats by.session none by.within) (ended by.session none by.within);
      }
    ]

-- the most openings of a leaf, by how many sessions have signed
pub most-is : (most signed count : ℕ) → most ≤ 1 → (count ≡ 0 → most ≡ 0) → (0 < count → 1 ≤ most) → (count ≡ 0 → signed ≡ 0) → (0 < count → 0 < signed)
    → most ≡ (if signed == 0 then 0 else 1)
most-is most signed zero few none some unsigned has = rw (unsigned refl) (none refl)
most-is most signed (suc count) few none some unsigned has =
    let low = has (omega arith) in
    let one = some (omega arith) in
    let test : signed == 0 ≡ false = grind (arith, nat_tests) in
    rw test (omega arith)
