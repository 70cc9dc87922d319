-- A leaf that was leased, in the file of its table and in all that a crash may leave of it.
use Rattle.std.specs.Prelude.{◌≡◌, ◌⊎◌, ℕ, List, Some, Result, Err, IsTrue}
use Rattle.aggregator_session.specs.declared.fault.SignFault.{SignFault}
use Rattle.aggregator_session.specs.declared.fault.SignFault.TheVariants as sign
use Rattle.leaf_table.specs.Entries.{IsBurnt}
use Rattle.leaf_table.specs.Leasing.{WasLeasedFor}
use Rattle.leaf_table.specs.Slots.{use_of_slot}
use Rattle.leaf_table.specs.declared.faults.TableFault.{TableFault}
use Rattle.aggregator_session.specs.Signing.{Signature, signed_with, spent_by}
use Rattle.lms_bytes.specs.MessageId.{message_id, message_id_bytes}
use Rattle.lms_bytes.specs.declared.message.MessageId.{MessageId}
use Rattle.slot_file.specs.Layout.{slot_at}
use Rattle.tool_base.specs.Touched.{DeviceRose}
use Rattle.tool_base.specs.World.{StoreRun}
use Rattle.tool_sign.specs.Ports.{Signing}

-- the file of this name satisfies `Is` at the end, and so does each image that a crash may leave of it
pub record AllLeave (store : StoreRun) (name : List ℕ) (Is : List ℕ → Type 0) : Type 0 where
  pub file : IsTrue store.before.told → (file : List ℕ) → store.after.file name ≡ Some file → Is file
  pub images : IsTrue store.before.told → IsTrue (store.before.disks name).honest → (image : List ℕ)
      → store.after.leaves name image → Is image

-- the leaf of this table is leased for the message, or was leased for it and is burnt
abbrev pub IsLeasedIn : ℕ → MessageId → List ℕ → Type 0
IsLeasedIn leaf message file = WasLeasedFor (message_id_bytes message) (use_of_slot (slot_at 1 leaf file))

-- the leaf of this table is burnt
abbrev pub IsBurntIn : ℕ → List ℕ → Type 0
IsBurntIn leaf file = use_of_slot (slot_at 1 leaf file) ≡ IsBurnt

-- What is left of the lease, by the outcome: none was made, or its leaf is leased for the message at the end. A leaf
-- that a member has spent for something else is burnt, or a call of the disk failed.
pub data LeaseIsLeft (signing : Signing) (table : List ℕ) (store : StoreRun)
    : Result Signature SignFault → Type 0 where
  too_long : (got : ℕ) → LeaseIsLeft signing table store (Err (sign.TooLong got))
  not_leased : (fault : TableFault) → LeaseIsLeft signing table store (Err (sign.Table fault))
  leased : (leaf : ℕ) (result : Result (List ℕ) SignFault)
      → AllLeave store table (IsLeasedIn leaf (message_id signing.message))
      → ((member : ℕ) → spent_by result ≡ Some member → AllLeave store table (IsBurntIn leaf) ⊎ DeviceRose store)
      → LeaseIsLeft signing table store (signed_with leaf result)
