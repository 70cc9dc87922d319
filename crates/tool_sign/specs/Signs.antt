-- Signing with a table of a store.
use Rattle.std.specs.Prelude.{◌≡◌, ◌+◌, ◌-◌, ◌^◌, ◌≤◌, min, ℕ, List, [], ◌∷◌, All, None, Result, Ok, Err, IsTrue}
use Rattle.aggregator_session.specs.declared.fault.SignFault.{SignFault}
use Rattle.disk_trait.specs.Faults.{Rose}
use Rattle.leaf_table.specs.declared.lease.Lease.{Lease}
use Rattle.aggregator_session.specs.Signing.{Signature}
use Rattle.aggregator_session.specs.Tables.{TableSeen}
use Rattle.aggregator_session.specs.declared.sign.Signed.{Signed}
use Rattle.tool_base.specs.Ending as ending
use Rattle.tool_base.specs.Ending.{Ending}
use Rattle.tool_base.specs.Endings as endings
use Rattle.tool_base.specs.declared.ending.Ending as declared
use Rattle.tool_base.specs.Touched.{Keeps}
use Rattle.tool_base.specs.World.{Failed, IsNetBack, IsRead, StoreRun}
use Rattle.tool_base.specs.Disks.{Stays}
use Rattle.tool_base.specs.Loads.{FailsToLoad, ReadsAs}
use Rattle.tool_sign.specs.Leases.{LeaseIsLeft}
use Rattle.tool_sign.specs.Ports.{IsIdle, NetRun, SignedOver, Signing, answer_of}
use Rattle.tool_sign.specs.Tables.{IsFresh, IsTable, LeavesTable, table_header}

-- a signature, or the end of the call
abbrev pub answer_in : Result Signed declared.Ending → Result Signature Ending
answer_in (Ok signed) = Ok (record { leaf = signed.leaf; bytes = signed.bytes.items })
answer_in (Err end) = Err (endings.ending end)

-- The message was signed with a leaf of the table of this name, or was not: from the entries of its file to those that
-- it stands for at the end. A put is in doubt only if the disk has failed, and the disk's faults are among those of the
-- store's disks.
pub record SignedTable (signing : Signing) (table : List ℕ) (store : StoreRun) (net : NetRun)
    (outcome : Result Signature SignFault) : Type 0 where
  pub old : TableSeen
  pub new : TableSeen
  pub fresh : IsFresh store.before table (table_header signing.desk.key) signing.desk.plan old
  pub table_is : ReadsAs store table (IsTable (table_header signing.desk.key) signing.desk.plan old.state.entries)
  pub name_is : new.name ≡ old.name
  pub over : SignedOver signing old new net outcome
  pub left : LeavesTable store table (table_header signing.desk.key) signing.desk.plan new.state
  pub sure : new.faults ≡ 0 → new.state.doubt ≡ None
  pub rise : min (store.before.disk_count + new.faults) (2 ^ 64 - 1) ≤ store.after.disk_count
  pub lease : LeaseIsLeft signing table store outcome

-- how signing with the table of this name ends, with the names that it touched
pub data TableEnds (signing : Signing) (table : List ℕ) (store : StoreRun) (net : NetRun)
    : Result Signature Ending → List (List ℕ) → Type 0 where
  no_table : IsIdle signing net → IsRead store table Failed
      → TableEnds signing table store net (Err ending.StoreFailed) []
  no_memory : (touched : List (List ℕ)) → IsIdle signing net → All (Stays store) touched
      → TableEnds signing table store net (Err ending.NoMemory) touched
  not_loaded : (end : Ending) → IsIdle signing net
      → FailsToLoad (table_header signing.desk.key) (2 ^ signing.desk.plan.h) store table end → Stays store table
      → TableEnds signing table store net (Err end) (table ∷ [])
  no_port : (entries : List Lease) → IsIdle signing net
      → ReadsAs store table (IsTable (table_header signing.desk.key) signing.desk.plan entries)
      → Rose net.before.port_count net.after.port_count → (IsTrue net.before.told → IsTrue net.before.steady → ⊥)
      → Stays store table → TableEnds signing table store net (Err ending.NetFailed) (table ∷ [])
  signed : (outcome : Result Signature SignFault) → SignedTable signing table store net outcome
      → TableEnds signing table store net (answer_of outcome) (table ∷ [])

-- Signing with the table of this name: an end by these rules. The store keeps all but the names that were touched, and
-- all disks and ports are back.
pub record TableRun (signing : Signing) (table : List ℕ) (store : StoreRun) (net : NetRun)
    (answer : Result Signature Ending) : Type 0 where
  pub touched : List (List ℕ)
  pub ends : TableEnds signing table store net answer touched
  pub keeps : Keeps touched store.before store.after
  pub ports : IsNetBack net.before net.after
