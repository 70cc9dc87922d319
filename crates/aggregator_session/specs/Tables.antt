-- A leaf table in one state, and what the calls for one message make of it.
use Rattle.std.specs.Prelude.{◌≡◌, ◌≢◌, ◌<◌, ◌≤◌, ◌^◌, ℕ, List, Result, Err, IfOk, IsTrue}
use Rattle.disk_trait.specs.declared.disk.Pages as pages
use Rattle.disk_trait.specs.declared.faults.Faults as faults
use Rattle.leaf_table.specs.Entries.{IsLeased, map_of}
use Rattle.leaf_table.specs.Leasing.{Burns, Leases}
use Rattle.leaf_table.specs.State.{TableState}
use Rattle.leaf_table.specs.Table.{disk_of, faults_of, header_of, plan_of, state_of}
use Rattle.leaf_table.specs.declared.faults.TableFault.{TableFault}
use Rattle.leaf_table.specs.declared.faults.TableFault.TheVariants.{Damaged, Device}
use Rattle.leaf_table.specs.declared.table.Table.{Table}
use Rattle.leaf_table.specs.declared.table.TableName.{TableName}
use Rattle.lms_bytes.specs.MessageId.{message_id_bytes}
use Rattle.lms_bytes.specs.declared.message.MessageId.{MessageId}
use Rattle.disk_trait.specs.Faults.{RisesAt}

-- what a table stands for, the count of faults of its disk, and what tells it from others for good
pub record TableSeen : Type 0 where
  pub state : TableState
  pub faults : ℕ
  pub name : TableName

module _ {D : Type 0} {p : pages.Ghosts D} {f : faults.Ghosts D} where
  abbrev pub name_of : Table D p f → TableName
  name_of table = record {
    header = header_of table;
    plan = plan_of table;
    told = p.told (disk_of table);
    honest = p.honest (disk_of table);
    steady = f.steady (disk_of table);
  }

  abbrev pub table_seen : Table D p f → TableSeen
  table_seen table = record { state = state_of table; faults = faults_of table; name = name_of table }

-- the same table at a later time: its name stays, and the count of its disk's faults never falls
pub record TableOnward (old new : TableSeen) : Type 0 where
  pub name : new.name ≡ old.name
  pub faults : old.faults ≤ new.faults

-- What leasing and burning say of the disk: no slot is found damaged if the disk tells its content, a steady disk that
-- tells it does not fail, and the count rises if the answer is Device and not otherwise.
pub record Entered {R : Type 0} (before after : TableSeen) (result : Result R TableFault) : Type 0 where
  pub told : IsTrue before.name.told → (leaf a b : ℕ) → result ≢ Err (Damaged leaf a b)
  pub succeeds : IsTrue before.name.steady → IsTrue before.name.told → result ≢ Err Device
  pub cause : RisesAt before.faults after.faults result (Err Device)
  pub name : after.name ≡ before.name

-- these members' leaf was asked for, for this message
pub record AsksLeaf (before : TableSeen) (members : List ℕ) (message : MessageId) (result : Result ℕ TableFault)
    (after : TableSeen) : Type 0 where
  pub event : Leases before.name.plan before.state members message result after.state
  pub within : IfOk result (λ leaf. leaf < 2 ^ before.name.plan.h)
  pub leased : IfOk result (λ leaf. map_of after.state.entries leaf ≡ IsLeased (message_id_bytes message))
  pub entered : Entered before after result

-- a leaf that was leased for this message was to be burnt, as this member reported it
pub record AsksToBurn (before : TableSeen) (leaf : ℕ) (message : MessageId) (member : ℕ) (after : TableSeen)
    : Type 0 where
  pub answer : Result (Unit {0}) TableFault
  pub event : Burns before.state leaf (message_id_bytes message) member answer after.state
  pub entered : Entered before after answer
