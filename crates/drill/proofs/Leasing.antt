-- What leasing a leaf for a session gives, if nothing is in doubt and none is leased for its message.
use Rattle.std.proofs.Common.{◌≡◌, ◌≢◌, ◌<◌, ◌%◌, ℕ, List, [], Contains, Option, None, Some, IsSome, IsTrue, Result, Ok, Err, inl, inr, refl, sym, ◌∙◌, ap, subst}
use Rattle.std.proofs.lemmas.Bool.{cases_eq}
use Rattle.std.proofs.lemmas.List.Elements.{Contains-get_or}
use Rattle.coalition_map.specs.Coalitions.{IsLeafAfter, PlanNumbers, coalition, coalitions, count_of, subsets}
use Rattle.coalition_map.proofs.CoalitionLaws.{coalition-distinct}
use Rattle.leaf_table.specs.Entries.{IsFree, IsLeased, LeafUse, map_of}
use Rattle.leaf_table.specs.Leasing.{HasNone, IsCoalition, LeaseOf, Leases, damaged, free, kept, made, no_coalition, no_leaf, none, unsettled, unwritten}
use Rattle.leaf_table.specs.State.{SettlesTo, TableState}
use Rattle.disk_trait.specs.declared.disk.Pages as pages
use Rattle.disk_trait.specs.declared.faults.Faults as faults
use Rattle.leaf_table.specs.Table.{Enters, IsTold, plan_of, state_of}
use Rattle.leaf_table.specs.declared.table.Table.{Table}
use Rattle.leaf_table.specs.declared.faults.TableFault.{TableFault}
use Rattle.leaf_table.specs.declared.faults.TableFault.TheVariants.{Device}
use Rattle.leaf_table.specs.declared.lease.Lease.{Lease}
use Rattle.leaf_table.specs.declared.lease.Lease.TheVariants.{Leased}
use Rattle.leaf_table.proofs.Maps.{map_of-other, map_of-same}
use Rattle.lms_bytes.specs.MessageId.{message_id, message_id_bytes}
use Rattle.lms_bytes.specs.declared.message.MessageId.{MessageId}
use Rattle.drill_schedule.specs.Draws.{message_bytes}
use Rattle.drill.specs.Courses.{Grows, IsBare, IsOnly, IsSettled, uses_of}
use Rattle.drill.specs.Ids.{id_of}
use Rattle.drill.proofs.Desks.{coalition-below, three}

pub count-three : count_of three ≡ 3
unfolding subsets
count-three = refl

own-of : (plan : PlanNumbers) (entries : List Lease) (c : ℕ) (m : List ℕ) (o : Option ℕ) (leaf : ℕ) → LeaseOf plan entries c m o → o ≡ Some leaf → IsLeafAfter plan c None leaf
own-of plan entries c m o leaf (kept x i) is = let same : x ≡ leaf = cc in subst (λ (q : ℕ). IsLeafAfter plan c None q) same i.own
own-of plan entries c m o leaf (free x bare i) is = let same : x ≡ leaf = cc in subst (λ (q : ℕ). IsLeafAfter plan c None q) same i.own
own-of plan entries c m o leaf (none bare empty) is = absurd (cc)

none-of : (plan : PlanNumbers) (entries : List Lease) (c : ℕ) (m : List ℕ) (o : Option ℕ) → LeaseOf plan entries c m o → o ≡ None → HasNone plan c (map_of entries) IsFree
none-of plan entries c m o (kept x i) is = absurd (cc)
none-of plan entries c m o (free x bare i) is = absurd (cc)
none-of plan entries c m o (none bare empty) is = empty

same-state : (before settled : TableState) → before.doubt ≡ None → SettlesTo before settled → (settled.entries ≡ before.entries) × (settled.doubt ≡ None)
same-state before settled sure (inl is) = (ap (λ (s : TableState). s.entries) is, ap (λ (s : TableState). s.doubt) is)
same-state before settled sure (inr doubted) = let is = doubted.1 in absurd (cc)

-- a new lease, and none
pub record IsNew (i : ℕ) (old new : ℕ → LeafUse) (leaf : ℕ) : Type 0 where
  pub within : leaf < 32
  pub own : leaf % 3 ≡ i % 3
  pub was : old leaf ≡ IsFree
  pub leased : new leaf ≡ IsLeased (id_of i)
  pub only : IsOnly i new leaf

abbrev pub Ends : ℕ → (ℕ → LeafUse) → (ℕ → LeafUse) → Result ℕ TableFault → Type 0
Ends i old new (Ok leaf) = IsNew i old new leaf
Ends i old new (Err fault) = ((q : ℕ) → q < 32 → q % 3 ≡ i % 3 → new q ≢ IsFree) × IsBare i new

pub record Done (i : ℕ) (before after : TableState) (result : Result ℕ TableFault) : Type 0 where
  pub grows : Grows i (map_of before.entries) (map_of after.entries)
  pub ends : Ends i (map_of before.entries) (map_of after.entries) result
  pub settled : after.doubt ≡ None

module _ (i : ℕ) (before : TableState) (sure : before.doubt ≡ None) (bare : (q : ℕ) → q < 32 → map_of before.entries q ≢ IsLeased (id_of i)) where
  number : (members : List ℕ) (c : ℕ) → members ≡ coalition three (i % 3) → IsCoalition three members c → c ≡ i % 3
  number members c is own = coalition-distinct three c (i % 3) own.within (coalition-below i) (own.members_are ∙ is)

  stays : (settled : TableState) → SettlesTo before settled → Grows i (map_of before.entries) (map_of settled.entries)
  stays settled settles = inl (λ q within. ap (λ (e : List Lease). map_of e q) (same-state before settled sure settles).0)

  place-of : (c leaf : ℕ) → c ≡ i % 3 → IsLeafAfter three c None leaf → (leaf < 32) × (leaf % 3 ≡ i % 3)
  place-of c leaf is after = (after.leaf, subst (λ (n : ℕ). leaf % n ≡ i % 3) count-three (after.own ∙ is))

  pub leased-for : (after : TableState) (members : List ℕ) (message : MessageId) (result : Result ℕ TableFault) → members ≡ coalition three (i % 3) → message ≡ message_id (message_bytes i)
      → result ≢ Err Device → Leases three before members message result after → Done i before after result
  leased-for after members message result theirs is goes (no_coalition missing) =
      absurd (missing (subst (λ (l : List ℕ). Contains (coalitions three.n three.k) l) (sym theirs) (Contains-get_or (coalitions three.n three.k) (i % 3) [] (coalition-below i))))
  leased-for after members message result theirs is goes (kept settled c leaf own settles found used) =
      let place = place-of c leaf (number members c theirs own) (own-of three settled.entries c (message_id_bytes message) (Some leaf) leaf found refl) in
      let here = ap (λ (e : List Lease). map_of e leaf) (sym (same-state before settled sure settles).0) ∙ used ∙ ap (λ (x : MessageId). IsLeased (message_id_bytes x)) is in
      absurd (bare leaf place.0 here)
  leased-for after members message result theirs is goes (made settled c leaf own settles found used) =
      let place = place-of c leaf (number members c theirs own) (own-of three settled.entries c (message_id_bytes message) (Some leaf) leaf found refl) in
      let same = (same-state before settled sure settles).0 in
      let was = ap (λ (e : List Lease). map_of e leaf) (sym same) ∙ used in
      let now = map_of-same settled.entries (Leased leaf message) leaf refl ∙ ap (λ (x : MessageId). IsLeased (message_id_bytes x)) is in
      record {
        grows = inr (record {
          leaf = leaf;
          within = place.0;
          coalition = place.1;
          free = was;
          bare = bare;
          leased = now;
          others = λ q other. map_of-other settled.entries (Leased leaf message) q other ∙ ap (λ (e : List Lease). map_of e q) same;
        });
        ends = record {
          within = place.0;
          own = place.1;
          was = was;
          leased = now;
          only = λ q within leased. elim (cases_eq q leaf) [
            | inl e ↦ e
            | inr other ↦
                absurd (bare q within (ap (λ (e : List Lease). map_of e q) (sym same) ∙ sym (map_of-other settled.entries (Leased leaf message) q other) ∙ leased))
          ];
        };
        settled = refl;
      }
  leased-for after members message result theirs is goes (no_leaf settled c own settles found) =
      let e = number members c theirs own in
      let empty = none-of three settled.entries c (message_id_bytes message) None found refl in
      record {
        grows = stays settled settles;
        ends = (
          λ q within coalition. empty q (record { leaf = within; own = subst (λ (n : ℕ). q % n ≡ c) (sym count-three) (coalition ∙ sym e); later = tt }),
          λ q within is. bare q within (ap (λ (e : List Lease). map_of e q) (sym (same-state before settled sure settles).0) ∙ is),
        );
        settled = (same-state before settled sure settles).1;
      }
  leased-for after members message result theirs is goes (unsettled c own some) = absurd (none-some before.doubt sure some)
    where
      none-some : {T : Type 0} (o : Option T) → o ≡ None → IsSome o → ⊥
      none-some None e some = cc
      none-some (Some x) e some = absurd (cc)
  leased-for after members message result theirs is goes (unwritten settled c leaf own settles found used) = absurd (goes refl)
  leased-for after members message result theirs is goes (damaged c a b doubted own put neither) = absurd (cc)

-- the same for a table whose disk is steady
pub record LeasedIn {D : Type 0} {p : pages.Ghosts D} {f : faults.Ghosts D} (i : ℕ) (old new : Table D p f) (result : Result ℕ TableFault) : Type 0 where
  pub done : Done i (state_of old) (state_of new) result
  pub settled : IsSettled new

pub lease-done : {D : Type 0} {p : pages.Ghosts D} {f : faults.Ghosts D} (i : ℕ) (old new : Table D p f) (members : List ℕ) (message : MessageId) (result : Result ℕ TableFault)
    → IsSettled old → IsBare i (uses_of old) → plan_of old ≡ three → members ≡ coalition three (i % 3) → message ≡ message_id (message_bytes i) → IsTold old
    → Leases (plan_of old) (state_of old) members message result (state_of new) → Enters old new result → LeasedIn i old new result
lease-done {f = f} i old new members message result settled bare plan theirs is told event enters =
    let event_is = subst (λ (q : PlanNumbers). Leases q (state_of old) members message result (state_of new)) plan event in
    let done = leased-for i (state_of old) settled.settled bare (state_of new) members message result theirs is (enters.succeeds settled.steady told) event_is in
    record {
      done = done;
      settled = record { settled = done.settled; steady = subst IsTrue (sym enters.stays.disk.steady) settled.steady };
    }
