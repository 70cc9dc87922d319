-- What leasing and burning do: the doubt is settled first, the tests follow in their order, and at most one entry is
-- made.
use Rattle.std.specs.Prelude.{◌≡◌, ◌≢◌, ◌⊎◌, ◌≤◌, ◌<◌, ℕ, List, None, Some, Option, Contains, Result, Ok, Err, IsSome}
use Rattle.coalition_map.specs.Coalitions.{IsLeafAfter, PlanNumbers, coalition, coalitions, count_of}
use Rattle.lms_bytes.specs.MessageId.{message_id_bytes}
use Rattle.lms_bytes.specs.declared.message.MessageId.{MessageId}
use Rattle.leaf_table.specs.Entries.{IsBurnt, IsFree, IsLeased, LeafUse, map_of}
use Rattle.leaf_table.specs.Slots.{report_body}
use Rattle.leaf_table.specs.State.{SettlesTo, TableState, with_doubt, with_lease}
use Rattle.leaf_table.specs.declared.lease.Lease.{Lease}
use Rattle.leaf_table.specs.declared.lease.Lease.TheVariants.{Leased, Burnt}
use Rattle.leaf_table.specs.declared.faults.TableFault.{TableFault}
use Rattle.leaf_table.specs.declared.faults.TableFault.TheVariants.{Device, Damaged, NotACoalition, NoLeaf}
use Rattle.slot_file.specs.Calls.{IsNeither}
use Rattle.slot_file.specs.State.{slot_in}
use Rattle.slot_file.specs.declared.doubted.Doubted.{Doubted}
use Rattle.slot_file.specs.declared.slot.Slot.TheVariants.{Half, Full}

-- the least leaf of coalition c whose use is this
pub record IsLeast (plan : PlanNumbers) (c : ℕ) (map : ℕ → LeafUse) (wanted : LeafUse) (leaf : ℕ) : Type 0 where
  pub own : IsLeafAfter plan c None leaf
  pub used : map leaf ≡ wanted
  pub least : (other : ℕ) → IsLeafAfter plan c None other → map other ≡ wanted → leaf ≤ other

-- no leaf of coalition c has this use
abbrev pub HasNone : PlanNumbers → ℕ → (ℕ → LeafUse) → LeafUse → Type 0
HasNone plan c map wanted = (leaf : ℕ) → IsLeafAfter plan c None leaf → map leaf ≢ wanted

-- The leaf of coalition c for a message: its least leaf that is leased for the message and not burnt; else its least
-- leaf that is neither leased nor burnt; else none.
pub data LeaseOf (plan : PlanNumbers) (entries : List Lease) (c : ℕ) (message : List ℕ) : Option ℕ → Type 0 where
  kept : (leaf : ℕ) → IsLeast plan c (map_of entries) (IsLeased message) leaf
      → LeaseOf plan entries c message (Some leaf)
  free : (leaf : ℕ) → HasNone plan c (map_of entries) (IsLeased message)
      → IsLeast plan c (map_of entries) IsFree leaf → LeaseOf plan entries c message (Some leaf)
  none : HasNone plan c (map_of entries) (IsLeased message) → HasNone plan c (map_of entries) IsFree
      → LeaseOf plan entries c message None

-- the members are coalition c
pub record IsCoalition (plan : PlanNumbers) (members : List ℕ) (c : ℕ) : Type 0 where
  pub within : c < count_of plan
  pub members_are : coalition plan c ≡ members

-- what asking for the leaf of these members and this message does
pub data Leases (plan : PlanNumbers) (before : TableState) (members : List ℕ) (message : MessageId)
    : Result ℕ TableFault → TableState → Type 0 where
  no_coalition : (Contains (coalitions plan.n plan.k) members → ⊥)
      → Leases plan before members message (Err NotACoalition) before
  kept : (settled : TableState) (c leaf : ℕ) → IsCoalition plan members c → SettlesTo before settled
      → LeaseOf plan settled.entries c (message_id_bytes message) (Some leaf)
      → map_of settled.entries leaf ≡ IsLeased (message_id_bytes message)
      → Leases plan before members message (Ok leaf) settled
  made : (settled : TableState) (c leaf : ℕ) → IsCoalition plan members c → SettlesTo before settled
      → LeaseOf plan settled.entries c (message_id_bytes message) (Some leaf) → map_of settled.entries leaf ≡ IsFree
      → Leases plan before members message (Ok leaf)
      (with_lease settled (Leased leaf message) leaf (Half (message_id_bytes message)))
  no_leaf : (settled : TableState) (c : ℕ) → IsCoalition plan members c → SettlesTo before settled
      → LeaseOf plan settled.entries c (message_id_bytes message) None
      → Leases plan before members message (Err (NoLeaf c)) settled
  unsettled : (c : ℕ) → IsCoalition plan members c → IsSome before.doubt
      → Leases plan before members message (Err Device) before
  unwritten : (settled : TableState) (c leaf : ℕ) → IsCoalition plan members c → SettlesTo before settled
      → LeaseOf plan settled.entries c (message_id_bytes message) (Some leaf) → map_of settled.entries leaf ≡ IsFree
      → Leases plan before members message (Err Device) (with_doubt settled leaf (Half (message_id_bytes message)))
  damaged : (c a b : ℕ) (doubted : Doubted) → IsCoalition plan members c → before.doubt ≡ Some doubted
      → IsNeither 1 (slot_in before.slots doubted.slot) doubted.after a b
      → Leases plan before members message (Err (Damaged doubted.slot a b)) before

-- what asking to burn a leaf that was leased for this message does
pub data Burns (before : TableState) (leaf : ℕ) (message : List ℕ) (by : ℕ)
    : Result (Unit {0}) TableFault → TableState → Type 0 where
  kept : (settled : TableState) → SettlesTo before settled → map_of settled.entries leaf ≡ IsBurnt
      → Burns before leaf message by (Ok tt) settled
  made : (settled : TableState) → SettlesTo before settled → map_of settled.entries leaf ≡ IsLeased message
      → Burns before leaf message by (Ok tt)
      (with_lease settled (Burnt leaf) leaf (Full message (report_body message by) 0))
  unsettled : IsSome before.doubt → Burns before leaf message by (Err Device) before
  unwritten : (settled : TableState) → SettlesTo before settled → map_of settled.entries leaf ≡ IsLeased message
      → Burns before leaf message by (Err Device) (with_doubt settled leaf (Full message (report_body message by) 0))
  damaged : (a b : ℕ) (doubted : Doubted) → before.doubt ≡ Some doubted
      → IsNeither 1 (slot_in before.slots doubted.slot) doubted.after a b
      → Burns before leaf message by (Err (Damaged doubted.slot a b)) before

-- the leaf was leased for this message, and may be burnt
abbrev pub WasLeasedFor : List ℕ → LeafUse → Type 0
WasLeasedFor message found = (found ≡ IsLeased message) ⊎ (found ≡ IsBurnt)
