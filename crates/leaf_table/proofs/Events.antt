-- The events of a call from those of its steps.
use Rattle.std.proofs.Common.{◌≡◌, ◌^◌, ◌<◌, ℕ, List, Option, None, Some, Result, Ok, Err, true, length, inl, inr, refl, sym, ◌∙◌, ap, subst}
use Rattle.std.specs.Prelude.{IfNone, IfOk, IfSome}
use Rattle.std.proofs.lemmas.Bool.{cases_eq}
use Rattle.coalition_map.specs.Coalitions.{IsLeafAfter, PlanNumbers}
use Rattle.lms_bytes.specs.MessageId.{message_id_bytes}
use Rattle.lms_bytes.specs.declared.message.MessageId.{MessageId}
use Rattle.leaf_table.specs.Entries.{IsBurnt, IsFree, IsLeased, LeafUse, map_of}
use Rattle.leaf_table.specs.Leasing.{Burns, HasNone, IsCoalition, IsLeast, LeaseOf, Leases, WasLeasedFor}
use Rattle.leaf_table.specs.Index.{IsFound}
use Rattle.leaf_table.specs.Leasing as leasing
use Rattle.leaf_table.specs.Slots.{may_become, report_body, use_of_slot}
use Rattle.leaf_table.specs.State.{IsSound, SettlesTo, TableState, lease_of, with_doubt}
use Rattle.leaf_table.specs.Steps.{IsLease, LeasesIn, Makes, Settles}
use Rattle.leaf_table.specs.Steps as steps
use Rattle.leaf_table.specs.declared.faults.TableFault.{TableFault}
use Rattle.leaf_table.specs.declared.faults.TableFault.TheVariants.{Device, Damaged, NotACoalition, NoLeaf}
use Rattle.leaf_table.specs.declared.lease.Lease.{Lease}
use Rattle.leaf_table.specs.declared.lease.Lease.TheVariants.{Leased, Burnt}
use Rattle.leaf_table.proofs.Maps.{map_of-other, map_of-same}
use Rattle.leaf_table.proofs.Sound.{leaf_of-lease}
use Rattle.slot_file.specs.State.{slot_in}
use Rattle.slot_file.specs.declared.slot.Slot.{Slot}
use Rattle.slot_file.specs.declared.slot.Slot.TheVariants.{Free, Half, Full, Damaged as Torn}

-- ---- the leaf of a coalition, by the slots and by the entries
module _ (plan : PlanNumbers) (c : ℕ) (slots : List Slot) (entries : List Lease) (size : length slots ≡ 2 ^ plan.h)
    (have : (leaf : ℕ) → leaf < length slots → use_of_slot (slot_in slots leaf) ≡ map_of entries leaf) where
  here : (leaf : ℕ) → IsLeafAfter plan c None leaf → use_of_slot (slot_in slots leaf) ≡ map_of entries leaf
  here leaf own = have leaf (subst (λ (n : ℕ). leaf < n) (sym size) own.leaf)

  pub least-of : (wanted : LeafUse) (leaf : ℕ) → IsLeast plan c (λ q. use_of_slot (slot_in slots q)) wanted leaf → IsLeast plan c (map_of entries) wanted leaf
  least-of wanted leaf least = record {
    own = least.own;
    used = sym (here leaf least.own) ∙ least.used;
    least = λ other own is. least.least other own (here other own ∙ is);
  }

  pub none-of : (wanted : LeafUse) → HasNone plan c (λ q. use_of_slot (slot_in slots q)) wanted → HasNone plan c (map_of entries) wanted
  none-of wanted none leaf own is = none leaf own (here leaf own ∙ is)

  pub found-least-of : (wanted : LeafUse) (found : Option ℕ) → IsFound plan slots c wanted found → IfSome found (IsLeast plan c (map_of entries) wanted)
  found-least-of wanted None is = tt
  found-least-of wanted (Some leaf) is = least-of wanted leaf is

  pub found-none-of : (wanted : LeafUse) (found : Option ℕ) → IsFound plan slots c wanted found → IfNone found (HasNone plan c (map_of entries) wanted)
  found-none-of wanted None is = none-of wanted is
  found-none-of wanted (Some leaf) is = tt

pub if-none : (o : Option ℕ) (P Q : Type 0) → (P → Q) → IfNone o P → IfNone o Q
if-none None P Q on h = on h
if-none (Some x) P Q on h = h

-- ---- leasing
pub leases-unsettled : (plan : PlanNumbers) (before after : TableState) (members : List ℕ) (message : MessageId) (c : ℕ) (fault : TableFault)
    → IsCoalition plan members c → Settles before (Err fault) after → Leases plan before members message (Err fault) after
leases-unsettled plan before after members message c Device is settles =
    subst (Leases plan before members message (Err Device)) (sym settles.1) (leasing.unsettled c is settles.0)
leases-unsettled plan before after members message c (Damaged leaf a b) is settles =
    let put = settles.0 in
    let there : Leases plan before members message (Err (Damaged put.slot a b)) before = leasing.damaged c a b put is settles.1 settles.4 in
    subst (Leases plan before members message (Err (Damaged leaf a b))) (sym settles.3)
    (subst (λ (l : ℕ). Leases plan before members message (Err (Damaged l a b)) before) (sym settles.2) there)
leases-unsettled plan before after members message c NotACoalition is settles = absurd settles
leases-unsettled plan before after members message c (NoLeaf got) is settles = absurd settles

leases-ok : (plan : PlanNumbers) (before mid after : TableState) (members : List ℕ) (message : MessageId) (c leaf : ℕ)
    → IsCoalition plan members c → SettlesTo before mid → LeaseOf plan mid.entries c (message_id_bytes message) (Some leaf)
    → IsLease mid message leaf after → Leases plan before members message (Ok leaf) after
leases-ok plan before mid after members message c leaf is settles found (steps.kept kept) = leasing.kept mid c leaf is settles found kept
leases-ok plan before mid after members message c leaf is settles found (steps.made free) = leasing.made mid c leaf is settles found free

pub leases-in : (plan : PlanNumbers) (before mid after : TableState) (members : List ℕ) (message : MessageId) (c : ℕ) (result : Result ℕ TableFault)
    → IsCoalition plan members c → SettlesTo before mid → LeasesIn plan mid c message result after → Leases plan before members message result after
leases-in plan before mid after members message c (Ok leaf) is settles event = leases-ok plan before mid after members message c leaf is settles event.0 event.1
leases-in plan before mid after members message c (Err (NoLeaf got)) is settles event =
    let there : Leases plan before members message (Err (NoLeaf c)) mid = leasing.no_leaf mid c is settles event.2 in
    subst (Leases plan before members message (Err (NoLeaf got))) (sym event.1)
    (subst (λ (n : ℕ). Leases plan before members message (Err (NoLeaf n)) mid) (sym event.0) there)
leases-in plan before mid after members message c (Err Device) is settles event =
    let there : Leases plan before members message (Err Device) (with_doubt mid event.0 (Half (message_id_bytes message))) = leasing.unwritten mid c event.0 is settles event.1 event.2 in
    subst (Leases plan before members message (Err Device)) (sym event.3) there
leases-in plan before mid after members message c (Err (Damaged leaf a b)) is settles event = absurd event
leases-in plan before mid after members message c (Err NotACoalition) is settles event = absurd event

pub leased-in : (plan : PlanNumbers) (before after : TableState) (message : MessageId) (c leaf : ℕ) (result : Result ℕ TableFault)
    → LeaseOf plan before.entries c (message_id_bytes message) (Some leaf) → map_of before.entries leaf ≡ IsFree
    → Makes before (Leased leaf message) leaf (Half (message_id_bytes message)) result after → IfOk result (λ got. got ≡ leaf)
    → LeasesIn plan before c message result after
leased-in plan before after message c leaf (Ok got) found free makes same =
    subst (λ (l : ℕ). LeasesIn plan before c message (Ok l) after) (sym same)
    (found, subst (IsLease before message leaf) (sym makes) (steps.made free))
leased-in plan before after message c leaf (Err Device) found free makes same = (leaf, found, free, makes)
leased-in plan before after message c leaf (Err (Damaged l a b)) found free makes same = absurd makes
leased-in plan before after message c leaf (Err NotACoalition) found free makes same = absurd makes
leased-in plan before after message c leaf (Err (NoLeaf got)) found free makes same = absurd makes

-- ---- burning
pub burns-unsettled : (before after : TableState) (leaf by : ℕ) (message : List ℕ) (fault : TableFault)
    → Settles before (Err fault) after → Burns before leaf message by (Err fault) after
burns-unsettled before after leaf by message Device settles = subst (Burns before leaf message by (Err Device)) (sym settles.1) (leasing.unsettled settles.0)
burns-unsettled before after leaf by message (Damaged l a b) settles =
    let put = settles.0 in
    let there : Burns before leaf message by (Err (Damaged put.slot a b)) before = leasing.damaged a b put settles.1 settles.4 in
    subst (Burns before leaf message by (Err (Damaged l a b))) (sym settles.3)
    (subst (λ (n : ℕ). Burns before leaf message by (Err (Damaged n a b)) before) (sym settles.2) there)
burns-unsettled before after leaf by message NotACoalition settles = absurd settles
burns-unsettled before after leaf by message (NoLeaf got) settles = absurd settles

pub burns-made : (before mid after : TableState) (leaf by : ℕ) (message : List ℕ) (result : Result (Unit {0}) TableFault)
    → SettlesTo before mid → map_of mid.entries leaf ≡ IsLeased message
    → Makes mid (Burnt leaf) leaf (Full message (report_body message by) 0) result after → Burns before leaf message by result after
burns-made before mid after leaf by message (Ok done) settles leased makes =
    subst (Burns before leaf message by (Ok done)) (sym makes) (leasing.made mid settles leased)
burns-made before mid after leaf by message (Err Device) settles leased makes =
    subst (Burns before leaf message by (Err Device)) (sym makes) (leasing.unwritten mid settles leased)
burns-made before mid after leaf by message (Err (Damaged l a b)) settles leased makes = absurd makes
burns-made before mid after leaf by message (Err NotACoalition) settles leased makes = absurd makes
burns-made before mid after leaf by message (Err (NoLeaf got)) settles leased makes = absurd makes

-- a slot that was leased or burnt becomes a burnt one
burnt-next : (x y : Slot) (message : List ℕ) → WasLeasedFor message (use_of_slot x) → may_become x y ≡ true → use_of_slot y ≡ IsBurnt
burnt-next Free y message (inl is) may = absurd (cc)
burnt-next Free y message (inr is) may = absurd (cc)
burnt-next (Half a) (Full b d moment) message was may = refl
burnt-next (Half a) Free message was may = absurd (cc)
burnt-next (Half a) (Half b) message was may = absurd (cc)
burnt-next (Half a) (Torn b d) message was may = absurd (cc)
burnt-next (Full a b moment) y message was may = absurd (cc)
burnt-next (Torn a b) y message was may = absurd (cc)

-- what was leased stays so, or is burnt, through settling
pub was-leased : (before mid : TableState) (leaf : ℕ) (message : List ℕ) → IsSound before → leaf < length before.slots → SettlesTo before mid
    → WasLeasedFor message (map_of before.entries leaf) → WasLeasedFor message (map_of mid.entries leaf)
was-leased before mid leaf message sound within (inl same) was = subst (λ (s : TableState). WasLeasedFor message (map_of s.entries leaf)) (sym same) was
was-leased before mid leaf message sound within (inr put) was =
    let d = put.0 in
    let lease = lease_of d in
    let is_leaf = leaf_of-lease d.slot d.after in
    subst (λ (s : TableState). WasLeasedFor message (map_of s.entries leaf)) (sym put.2)
    (elim (cases_eq leaf d.slot) [
      | inl same ↦
          let slot : WasLeasedFor message (use_of_slot (slot_in before.slots leaf)) = subst (WasLeasedFor message) (sym (sound.slots leaf within)) was in
          let may : may_become (slot_in before.slots leaf) d.after ≡ true =
          ap (λ (k : ℕ). may_become (slot_in before.slots k) d.after) same ∙ sound.next d put.1 in
          inr (map_of-same before.entries lease leaf (same ∙ sym is_leaf) ∙ sound.makes d put.1 ∙ burnt-next (slot_in before.slots leaf) d.after message slot may)
      | inr differs ↦ subst (WasLeasedFor message) (sym (map_of-other before.entries lease leaf (λ is. differs (is ∙ is_leaf)))) was
    ])
