-- What settling the entry in doubt leaves of a table, from what it says of the slots.
use Rattle.std.proofs.Common.{◌≡◌, ◌≢◌, ℕ, List, Result, Ok, Err, refl, ap}
use Rattle.disk_trait.specs.declared.disk.Pages as pages
use Rattle.disk_trait.specs.declared.faults.Faults as faults
use Rattle.leaf_table.specs.Faults.{table_fault}
use Rattle.leaf_table.specs.State.{state_with}
use Rattle.leaf_table.specs.Steps.{Settles}
use Rattle.leaf_table.specs.Table.{Enters, IsSteady, IsTold, Stays, faults_of}
use Rattle.leaf_table.specs.declared.faults.TableFault.{TableFault}
use Rattle.leaf_table.specs.declared.lease.Lease.{Lease}
use Rattle.leaf_table.specs.declared.table.Table.{Table}
use Rattle.slot_file.specs.Calls as calls
use Rattle.disk_trait.specs.Faults.{RisesAt}
use Rattle.slot_file.specs.State.{CacheState}
use Rattle.slot_file.specs.declared.faults.SettleFault.{SettleFault}
use Rattle.slot_file.specs.declared.faults.SettleFault.TheVariants as settle
use Rattle.slot_file.specs.declared.faults.Settled.{Settled}

-- the entry stays in doubt
module _ (version : ℕ) (one : version ≡ 1) (before after : CacheState) (entries : List Lease) where
  failed_as : (fault : SettleFault) → calls.Settles version before (Err fault) after → Settles (state_with before entries) (Err (table_fault fault)) (state_with after entries)
  failed_as settle.Device event = (event.0, ap (λ (s : CacheState). state_with s entries) event.1)
  failed_as (settle.Damaged slot a b) event =
      (event.0, event.1, event.2, ap (λ (s : CacheState). state_with s entries) event.3, rw (one, event.2) at event.4)

  pub settle_failed : (fault : SettleFault) (got : TableFault) → got ≡ table_fault fault → calls.Settles version before (Err fault) after
      → Settles (state_with before entries) (Err got) (state_with after entries)
  settle_failed fault got is event = rw is (failed_as fault event)

-- what is said about the disk
module _ {D : Type 0} {p : pages.Ghosts D} {f : faults.Ghosts D} (old new : Table D p f) (stays : Stays old new) where
  pub enters_settled : (settled : Settled) → RisesAt (faults_of old) (faults_of new) (Ok settled) (Err settle.Device) → Enters {R = Unit {0}} old new (Ok tt)
  enters_settled settled cause = record {
    told = λ told leaf a b is. absurd (cc);
    succeeds = λ steady told is. absurd (cc);
    cause = record { later = cause.later; failed = λ is. absurd (cc); others = λ other. cause.others (λ is. absurd (cc)) };
    stays = stays;
  }

  enters_as : (fault : SettleFault) → (IsTold old → (slot a b : ℕ) → ◌≢◌ {A = Result Settled SettleFault} (Err fault) (Err (settle.Damaged slot a b)))
      → (IsSteady old → IsTold old → ◌≢◌ {A = Result Settled SettleFault} (Err fault) (Err settle.Device))
      → RisesAt {R = Result Settled SettleFault} (faults_of old) (faults_of new) (Err fault) (Err settle.Device) → Enters {R = Unit {0}} old new (Err (table_fault fault))
  enters_as settle.Device told succeeds cause = record {
    told = λ it leaf a b is. absurd (cc);
    succeeds = λ steady it is. succeeds steady it refl;
    cause = record { later = cause.later; failed = λ is. cause.failed refl; others = λ other. absurd (other refl) };
    stays = stays;
  }
  enters_as (settle.Damaged slot x y) told succeeds cause = record {
    told = λ it leaf a b is. told it slot x y refl;
    succeeds = λ steady it is. absurd (cc);
    cause = record { later = cause.later; failed = λ is. absurd (cc); others = λ other. cause.others (λ is. absurd (cc)) };
    stays = stays;
  }

  pub enters_failed : (fault : SettleFault) (got : TableFault) → got ≡ table_fault fault
      → (IsTold old → (slot a b : ℕ) → ◌≢◌ {A = Result Settled SettleFault} (Err fault) (Err (settle.Damaged slot a b)))
      → (IsSteady old → IsTold old → ◌≢◌ {A = Result Settled SettleFault} (Err fault) (Err settle.Device))
      → RisesAt {R = Result Settled SettleFault} (faults_of old) (faults_of new) (Err fault) (Err settle.Device) → Enters {R = Unit {0}} old new (Err got)
  enters_failed fault got is told succeeds cause = rw is (enters_as fault told succeeds cause)
