-- What a lease leaves in the file of a table.
use Rattle.std.proofs.Common.{◌≡◌, ◌⊎◌, ◌<◌, ◌≤◌, ◌^◌, ◌+◌, ◌-◌, min, ℕ, List, length, Option, Some, None, Result, Ok, Err, IsSome, inl, inr, refl, sym, ap, ◌∙◌, subst, arith}
use Rattle.std.proofs.lemmas.Bool.{false≢true}
use Rattle.aggregator_session.specs.declared.fault.SignFault.{SignFault}
use Rattle.coalition_map.specs.Coalitions.{PlanNumbers}
use Rattle.disk_trait.specs.Faults.{Rose}
use Rattle.leaf_table.proofs.Maps.{map_of-same}
use Rattle.leaf_table.specs.Entries.{IsBurnt, IsLeased, LeafUse, leaf_of, map_of, use_after}
use Rattle.leaf_table.specs.Leasing.{Burns, Leases, WasLeasedFor}
use Rattle.leaf_table.specs.Leasing as leasing
use Rattle.leaf_table.specs.Slots.{report_body, use_of_slot}
use Rattle.leaf_table.specs.State.{SettlesTo, StandsFor, TableState, lease_of, with_doubt, with_lease}
use Rattle.leaf_table.specs.declared.faults.TableFault.{TableFault}
use Rattle.leaf_table.specs.declared.faults.TableFault.TheVariants.{Device}
use Rattle.leaf_table.specs.declared.lease.Lease.TheVariants.{Burnt}
use Rattle.aggregator_session.specs.Signing.{Signature, SignsLeased, Spends, spent_by}
use Rattle.aggregator_session.specs.Signing as signing
use Rattle.aggregator_session.specs.Tables.{TableSeen}
use Rattle.lms_bytes.specs.MessageId.{message_id, message_id_bytes}
use Rattle.lms_bytes.specs.declared.message.MessageId.{MessageId}
use Rattle.slot_file.specs.declared.doubted.Doubted.{Doubted}
use Rattle.slot_file.specs.Layout.{slot_at}
use Rattle.slot_file.specs.declared.header.Header.{Header}
use Rattle.slot_file.specs.declared.slot.Slot.TheVariants.{Full}
use Rattle.stream_io.specs.Net.{PortState}
use Rattle.tool_base.specs.World.{StoreRun}
use Rattle.tool_sign.specs.Leases.{AllLeave, IsBurntIn, IsLeasedIn, LeaseIsLeft, leased, not_leased, too_long}
use Rattle.tool_sign.specs.Ports.{Signing, sign_of}
use Rattle.tool_sign.specs.Tables.{LeavesTable, table_header}

settled-none : (state settled : TableState) → SettlesTo state settled → settled.doubt ≡ None
settled-none state settled (inl is) = ap (λ (s : TableState). s.doubt) is
settled-none state settled (inr made) = ap (λ (s : TableState). s.doubt) made.2

settled-same : (state settled : TableState) → state.doubt ≡ None → SettlesTo state settled → settled.entries ≡ state.entries
settled-same state settled none (inl is) = ap (λ (s : TableState). s.entries) is
settled-same state settled none (inr made) = let some = made.1 in absurd (cc)

-- nothing is in doubt once a leaf is leased
leased-none : (plan : PlanNumbers) (before after : TableState) (members : List ℕ) (message : MessageId) (leaf : ℕ) → Leases plan before members message (Ok leaf) after → after.doubt ≡ None
leased-none plan before after members message _ (leasing.kept settled c leaf coalition settles of is) = settled-none before settled settles
leased-none plan before _ members message _ (leasing.made settled c leaf coalition settles of is) = refl

-- what the leaf is in a file that stands for the table
module _ (state : TableState) (leaf : ℕ) (message : List ℕ) where
  abbrev Shown : List ℕ → LeafUse
  Shown file = use_of_slot (slot_at 1 leaf file)

  -- for every file that stands for it: the leaf is leased, or was and is burnt; and it is burnt, or this holds
  record Left (rose : Type 0) : Type 0 where
    keeps : (file : List ℕ) → leaf < length state.slots → StandsFor file state → WasLeasedFor message (Shown file)
    burnt : ((file : List ℕ) → leaf < length state.slots → StandsFor file state → Shown file ≡ IsBurnt) ⊎ rose

  shown-leased : map_of state.entries leaf ≡ IsLeased message → ((doubted : Doubted) → state.doubt ≡ Some doubted → lease_of doubted ≡ Burnt leaf)
      → (file : List ℕ) → leaf < length state.slots → StandsFor file state → WasLeasedFor message (Shown file)
  shown-leased is burns file within (inl has) = inl (has leaf within ∙ is)
  shown-leased is burns file within (inr made) =
      let entry = lease_of made.0 in
      let same : entry ≡ Burnt leaf = burns made.0 made.1 in
      let own : leaf ≡ leaf_of entry = sym (ap leaf_of same) in
      inr (made.2 leaf within ∙ (map_of-same state.entries entry leaf own ∙ ap use_after same))

  shown-burnt : map_of state.entries leaf ≡ IsBurnt → state.doubt ≡ None → (file : List ℕ) → leaf < length state.slots → StandsFor file state → Shown file ≡ IsBurnt
  shown-burnt is none file within (inl has) = has leaf within ∙ is
  shown-burnt is none file within (inr made) = let some = made.1 in absurd (cc)

made-left : (settled : TableState) (leaf : ℕ) (message : List ℕ) (by : ℕ) (rose : Type 0) → Left (with_lease settled (Burnt leaf) leaf (Full message (report_body message by) 0)) leaf message rose
made-left settled leaf message by rose =
    let after = with_lease settled (Burnt leaf) leaf (Full message (report_body message by) 0) in
    let burnt = map_of-same settled.entries (Burnt leaf) leaf refl in
    record {
      keeps = λ file within stands. inr (shown-burnt after leaf message burnt refl file within stands);
      burnt = inl (shown-burnt after leaf message burnt refl);
    }

unwritten-left : (settled : TableState) (leaf : ℕ) (message : List ℕ) (by : ℕ) (rose : Type 0) → map_of settled.entries leaf ≡ IsLeased message → rose
    → Left (with_doubt settled leaf (Full message (report_body message by) 0)) leaf message rose
unwritten-left settled leaf message by rose was rises =
    let after = with_doubt settled leaf (Full message (report_body message by) 0) in
    record {
      keeps = shown-leased after leaf message was (λ doubted same. let own : doubted ≡ record { slot = leaf; after = Full message (report_body message by) 0 } = cc in ap lease_of own);
      burnt = inr rises;
    }

-- the leaf was leased and is burnt now, or its burning is in doubt
burnt-left : (before after : TableState) (leaf : ℕ) (message : List ℕ) (by : ℕ) (answer : Result (Unit {0}) TableFault) (rose : Type 0)
    → before.doubt ≡ None → map_of before.entries leaf ≡ IsLeased message → (answer ≡ Err Device → rose) → Burns before leaf message by answer after → Left after leaf message rose
burnt-left before after leaf message by answer rose none is fails (leasing.kept settled settles burnt) =
    let same = settled-same before settled none settles in absurd (cc)
burnt-left before _ leaf message by answer rose none is fails (leasing.made settled settles was) = made-left settled leaf message by rose
burnt-left before after leaf message by answer rose none is fails (leasing.unsettled some) = absurd (false≢true (subst IsSome none some))
burnt-left before _ leaf message by answer rose none is fails (leasing.unwritten settled settles was) = unwritten-left settled leaf message by rose was (fails refl)
burnt-left before after leaf message by answer rose none is fails (leasing.damaged a b doubted some neither) = absurd (cc)

spends-left : (mid after : TableSeen) (leaf : ℕ) (message : MessageId) (spent : Option ℕ) → mid.state.doubt ≡ None → map_of mid.state.entries leaf ≡ IsLeased (message_id_bytes message)
    → Spends mid leaf message spent after
    → ((file : List ℕ) → leaf < length after.state.slots → StandsFor file after.state → WasLeasedFor (message_id_bytes message) (use_of_slot (slot_at 1 leaf file)))
    × ((member : ℕ) → spent ≡ Some member
    → ((file : List ℕ) → leaf < length after.state.slots → StandsFor file after.state → use_of_slot (slot_at 1 leaf file) ≡ IsBurnt) ⊎ Rose mid.faults after.faults)
spends-left mid after leaf message None none is same = (
  shown-leased after.state leaf (message_id_bytes message) (ap (λ (t : TableSeen). map_of t.state.entries leaf) same ∙ is)
      (λ doubted some. let before = ap (λ (t : TableSeen). t.state.doubt) same in absurd (cc)),
  λ member some. absurd (cc),
)
spends-left mid after leaf message (Some by) none is asks =
    let left = burnt-left mid.state after.state leaf (message_id_bytes message) by asks.answer (Rose mid.faults after.faults) none is asks.entered.cause.failed asks.event in
    (left.keeps, λ member some. left.burnt)

-- what holds of every file that stands for the table holds of its file and of all images
all-leave : (store : StoreRun) (name : List ℕ) (header : Header) (plan : PlanNumbers) (state : TableState) (Is : List ℕ → Type 0) → LeavesTable store name header plan state
    → ((file : List ℕ) → StandsFor file state → Is file) → AllLeave store name Is
all-leave store name header plan state Is leaves every = record {
  file = λ told file is.
      let own = leaves.is_read told in
      let same : leaves.file ≡ file = cc in
      every file (subst (λ (f : List ℕ). StandsFor f state) same (leaves.stands told).stands);
  images = λ told honest image may. every image (leaves.images told honest image may).stands;
}

module _ (s : Signing) (table : List ℕ) (store : StoreRun) where
  pub lease-of : (old new : TableSeen) (port done : PortState) (outcome : Result Signature SignFault) → old.name.plan ≡ s.desk.plan
      → LeavesTable store table (table_header s.desk.key) s.desk.plan new.state → min (store.before.disk_count + new.faults) (2 ^ 64 - 1) ≤ store.after.disk_count
      → SignsLeased (sign_of s) old port new done outcome → LeaseIsLeft s table store outcome
  lease-of old new port done _ plan leaves rise (signing.too_long long unread) = too_long _
  lease-of old new port done _ plan leaves rise (signing.not_leased after fault short unread asks) = not_leased fault
  lease-of old new port done _ plan leaves rise (signing.leased leaf mid after now result short asks runs spends) =
      let id = message_id s.message in
      let none = leased-none old.name.plan old.state mid.state s.members id leaf asks.event in
      let left = spends-left mid after leaf id (spent_by result) none asks.leased spends in
      let within : leaf < length after.state.slots = subst (λ (n : ℕ). leaf < n) (sym leaves.many) (subst (λ (q : PlanNumbers). leaf < 2 ^ q.h) plan asks.within) in
      let all = all-leave store table (table_header s.desk.key) s.desk.plan after.state in
      leased leaf result (all (IsLeasedIn leaf id) leaves (λ file stands. left.0 file within stands))
      (λ member some. elim (left.1 member some) [
        | inl burnt ↦ inl (all (IsBurntIn leaf) leaves (λ file stands. burnt file within stands))
        | inr rose ↦ inr (omega (arith, rose, rise))
      ])
