-- The leaf that a table has for a coalition and a message is one leaf, and it is leased.
use Rattle.std.proofs.Common.{◌≡◌, ◌⊎◌, ◌<◌, ◌^◌, ℕ, List, [], Option, Some, None, Result, Ok, Err, length, refl, sym, ap, subst, ◌∙◌, inl, inr, arith}
use Rattle.std.proofs.lemmas.List.{ext_get_or, get_or_default}
use Rattle.coalition_map.specs.Coalitions.{IsLeafAfter, PlanNumbers, coalitions}
use Rattle.coalition_map.proofs.CoalitionLaws.{coalition-distinct}
use Rattle.leaf_table.specs.Entries.{IsFree, IsLeased, LeafUse, map_of}
use Rattle.leaf_table.specs.Leasing.{IsCoalition, IsLeast, LeaseOf, Leases, damaged, free, kept, made, no_coalition, no_leaf, none, unsettled, unwritten}
use Rattle.leaf_table.specs.Leasing as leasing
use Rattle.leaf_table.specs.Loading.{entries_of}
use Rattle.leaf_table.specs.State.{SettlesTo, TableState}
use Rattle.leaf_table.specs.declared.faults.TableFault.{TableFault}
use Rattle.leaf_table.specs.declared.faults.TableFault.TheVariants.{Device}
use Rattle.leaf_table.specs.declared.lease.Lease.{Lease}
use Rattle.lms_bytes.specs.MessageId.{message_id_bytes}
use Rattle.lms_bytes.specs.declared.message.MessageId.{MessageId}
use Rattle.slot_file.specs.State.{HasSlots, slot_in}
use Rattle.slot_file.specs.declared.header.Header.{Header}
use Rattle.slot_file.specs.declared.slot.Slot.{Slot}
use Rattle.slot_file.specs.declared.slot.Slot.TheVariants.{Free}
use Rattle.tool_sign.specs.Tables.{IsTable}

-- a file has one list of slots
one-slots : (header : Header) (xs ys : List Slot) (file : List ℕ) → length xs ≡ length ys → HasSlots header xs file → HasSlots header ys file → xs ≡ ys
one-slots header xs ys file size a b =
    ext_get_or Free xs ys size (λ i lt. sym (a.shows i lt) ∙ b.shows i (subst (λ (n : ℕ). i < n) size lt))

-- and so it is the table of one list of entries
pub one-table : (header : Header) (plan : PlanNumbers) (xs ys : List Lease) (file : List ℕ) → IsTable header plan xs file → IsTable header plan ys file → xs ≡ ys
one-table header plan xs ys file a b =
    let slots = one-slots header a.slots b.slots file (a.many ∙ sym b.many) a.has b.has in
    a.entries_are ∙ (ap (λ (s : List Slot). entries_of (2 ^ plan.h) (slot_in s)) slots ∙ sym b.entries_are)

one-least : (plan : PlanNumbers) (c : ℕ) (map : ℕ → LeafUse) (wanted : LeafUse) (a b : ℕ) → IsLeast plan c map wanted a → IsLeast plan c map wanted b → a ≡ b
one-least plan c map wanted a b x y =
    let low = x.least b y.own y.used in
    let high = y.least a x.own x.used in
    omega arith

abbrev some : ℕ → Option ℕ
some leaf = Some leaf

one-lease : (plan : PlanNumbers) (entries : List Lease) (c : ℕ) (message : List ℕ) (a b : Option ℕ) → LeaseOf plan entries c message a → LeaseOf plan entries c message b → a ≡ b
one-lease plan entries c message a b (kept x i) (kept y j) = ap some (one-least plan c (map_of entries) (IsLeased message) x y i j)
one-lease plan entries c message a b (kept x i) (free y bare j) = absurd (bare x i.own i.used)
one-lease plan entries c message a b (kept x i) (none bare empty) = absurd (bare x i.own i.used)
one-lease plan entries c message a b (free x bare i) (kept y j) = absurd (bare y j.own j.used)
one-lease plan entries c message a b (free x bare i) (free y other j) = ap some (one-least plan c (map_of entries) IsFree x y i j)
one-lease plan entries c message a b (free x bare i) (none other empty) = absurd (empty x i.own i.used)
one-lease plan entries c message a b (none bare empty) (kept y j) = absurd (bare y j.own j.used)
one-lease plan entries c message a b (none bare empty) (free y other j) = absurd (empty y j.own j.used)
one-lease plan entries c message a b (none bare empty) (none other more) = refl

-- its leaf is one of the coalition's
pub lease-own : (plan : PlanNumbers) (entries : List Lease) (c : ℕ) (message : List ℕ) (o : Option ℕ) (leaf : ℕ) → LeaseOf plan entries c message o → o ≡ Some leaf → IsLeafAfter plan c None leaf
lease-own plan entries c message o leaf (kept x i) is = let same : x ≡ leaf = cc in subst (λ (q : ℕ). IsLeafAfter plan c None q) same i.own
lease-own plan entries c message o leaf (free x bare i) is = let same : x ≡ leaf = cc in subst (λ (q : ℕ). IsLeafAfter plan c None q) same i.own
lease-own plan entries c message o leaf (none bare empty) is = absurd (cc)

same-state : (before settled : TableState) → before.doubt ≡ None → SettlesTo before settled → settled.entries ≡ before.entries
same-state before settled sure (inl is) = ap (λ (s : TableState). s.entries) is
same-state before settled sure (inr later) =
    let doubt = later.1 in
    absurd (cc)

abbrev leased-as : ℕ → Result ℕ TableFault
leased-as leaf = Ok leaf

-- what a lease comes to if the table has this leaf for it: the leaf, unless a call of the disk failed
pub leases-well : (plan : PlanNumbers) (before after : TableState) (members : List ℕ) (message : MessageId) (result : Result ℕ TableFault) (c leaf : ℕ) → Leases plan before members message result after
    → before.doubt ≡ None → IsCoalition plan members c → LeaseOf plan before.entries c (message_id_bytes message) (Some leaf) → (result ≡ Ok leaf) ⊎ (result ≡ Err Device)
leases-well plan before after members message result c leaf leases sure coalition is = by leases
  where
    number : (other : ℕ) → IsCoalition plan members other → other ≡ c
    number other own = coalition-distinct plan other c own.within coalition.within (own.members_are ∙ sym coalition.members_are)

    found : (settled : TableState) (other : ℕ) (o : Option ℕ) → IsCoalition plan members other → SettlesTo before settled → LeaseOf plan settled.entries other (message_id_bytes message) o → o ≡ Some leaf
    found settled other o own settles of =
        let here = subst (λ (e : List Lease). LeaseOf plan e other (message_id_bytes message) o) (same-state before settled sure settles) of in
        let there = subst (λ (k : ℕ). LeaseOf plan before.entries k (message_id_bytes message) o) (number other own) here in
        one-lease plan before.entries c (message_id_bytes message) o (Some leaf) there is

    by : {r : Result ℕ TableFault} {s : TableState} → Leases plan before members message r s → (r ≡ Ok leaf) ⊎ (r ≡ Err Device)
    by (no_coalition bad) = absurd (bad (c, coalition.within, get_or_default (coalitions plan.n plan.k) c members [] coalition.within ∙ coalition.members_are))
    by (leasing.kept settled other q own settles of used) =
        let same = found settled other (Some q) own settles of in
        let leaf_is : q ≡ leaf = cc in
        inl (ap leased-as leaf_is)
    by (leasing.made settled other q own settles of used) =
        let same = found settled other (Some q) own settles of in
        let leaf_is : q ≡ leaf = cc in
        inl (ap leased-as leaf_is)
    by (no_leaf settled other own settles of) =
        let same = found settled other None own settles of in
        absurd (cc)
    by (unsettled other own doubt) = absurd (cc)
    by (unwritten settled other q own settles of used) = inr refl
    by (damaged other a b doubted own doubt neither) = absurd (cc)
