-- What the steps of a call do. Only contracts inside the crate speak of it.
use Rattle.std.specs.Prelude.{◌≡◌, ℕ, None, Some, Result, Ok, Err, IsSome}
use Rattle.coalition_map.specs.Coalitions.{PlanNumbers}
use Rattle.lms_bytes.specs.MessageId.{message_id_bytes}
use Rattle.lms_bytes.specs.declared.message.MessageId.{MessageId}
use Rattle.leaf_table.specs.Entries.{IsFree, IsLeased, map_of}
use Rattle.leaf_table.specs.Leasing.{LeaseOf}
use Rattle.leaf_table.specs.State.{SettlesTo, TableState, with_doubt, with_lease}
use Rattle.leaf_table.specs.declared.faults.TableFault.{TableFault}
use Rattle.leaf_table.specs.declared.faults.TableFault.TheVariants.{Device, Damaged, NoLeaf}
use Rattle.leaf_table.specs.declared.lease.Lease.{Lease}
use Rattle.leaf_table.specs.declared.lease.Lease.TheVariants.{Leased}
use Rattle.slot_file.specs.Calls.{IsNeither}
use Rattle.slot_file.specs.State.{slot_in}
use Rattle.slot_file.specs.declared.doubted.Doubted.{Doubted}
use Rattle.slot_file.specs.declared.slot.Slot.{Slot}
use Rattle.slot_file.specs.declared.slot.Slot.TheVariants.{Half}

-- the doubt is settled, or stays if the disk failed or the slot is neither as before nor as after
abbrev pub Settles : TableState → Result (Unit {0}) TableFault → TableState → Type 0
Settles before (Ok done) after = (after.doubt ≡ None) × SettlesTo before after
Settles before (Err Device) after = IsSome before.doubt × (after ≡ before)
Settles before (Err (Damaged leaf a b)) after =
    (doubted : Doubted) × (before.doubt ≡ Some doubted) × (leaf ≡ doubted.slot) × (after ≡ before)
    × IsNeither 1 (slot_in before.slots doubted.slot) doubted.after a b
Settles before (Err fault) after = ⊥

-- an entry was made by a slot, or is in doubt
abbrev pub Makes : {T : Type 0} → TableState → Lease → ℕ → Slot → Result T TableFault → TableState → Type 0
Makes before lease leaf slot (Ok done) after = after ≡ with_lease before lease leaf slot
Makes before lease leaf slot (Err Device) after = after ≡ with_doubt before leaf slot
Makes before lease leaf slot (Err fault) after = ⊥

-- the leaf was leased for the message before, or is so now
pub data IsLease (before : TableState) (message : MessageId) (leaf : ℕ) : TableState → Type 0 where
  kept : map_of before.entries leaf ≡ IsLeased (message_id_bytes message) → IsLease before message leaf before
  made : map_of before.entries leaf ≡ IsFree → IsLease before message leaf
      (with_lease before (Leased leaf message) leaf (Half (message_id_bytes message)))

-- what leasing a leaf of coalition c does if nothing is in doubt
abbrev pub LeasesIn : PlanNumbers → TableState → ℕ → MessageId → Result ℕ TableFault → TableState → Type 0
LeasesIn plan before c message (Ok leaf) after =
    LeaseOf plan before.entries c (message_id_bytes message) (Some leaf) × IsLease before message leaf after
LeasesIn plan before c message (Err (NoLeaf got)) after =
    (got ≡ c) × (after ≡ before) × LeaseOf plan before.entries c (message_id_bytes message) None
LeasesIn plan before c message (Err Device) after =
    (leaf : ℕ) × LeaseOf plan before.entries c (message_id_bytes message) (Some leaf)
    × (map_of before.entries leaf ≡ IsFree) × (after ≡ with_doubt before leaf (Half (message_id_bytes message)))
LeasesIn plan before c message (Err fault) after = ⊥
