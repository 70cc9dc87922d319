-- A leaf table as contracts see it, and what always holds of it.
use Rattle.std.specs.Prelude.{◌≡◌, ◌≢◌, ◌^◌, ℕ, List, None, Result, Err, IsTrue}
use Rattle.coalition_map.specs.Coalitions.{PlanNumbers}
use Rattle.disk_trait.specs.declared.disk.Pages as pages
use Rattle.disk_trait.specs.declared.faults.Faults as faults
use Rattle.leaf_table.specs.Loading.{IsTableFile}
use Rattle.leaf_table.specs.Runs.{KeepsOneLease}
use Rattle.leaf_table.specs.State.{StandsFor, TableState, state_with}
use Rattle.leaf_table.specs.declared.faults.TableFault.{TableFault}
use Rattle.leaf_table.specs.declared.faults.TableFault.TheVariants.{Damaged, Device}
use Rattle.leaf_table.specs.declared.table.Table.{Table}
use Rattle.slot_file.specs.Cache.{disk_of as cache_disk, header_of as cache_header, state_of as cache_state}
use Rattle.disk_trait.specs.Faults.{RisesAt}
use Rattle.disk_trait.specs.SameDisk.{SameDisk}
use Rattle.slot_file.specs.declared.header.Header.{Header}

module _ {D : Type 0} {p : pages.Ghosts D} {f : faults.Ghosts D} where
  abbrev pub disk_of : Table D p f → D
  disk_of table = cache_disk table.slots

  abbrev pub header_of : Table D p f → Header
  header_of table = cache_header table.slots

  abbrev pub plan_of : Table D p f → PlanNumbers
  plan_of table = table.plan

  abbrev pub state_of : Table D p f → TableState
  state_of table = state_with (cache_state table.slots) table.entries.items

  abbrev pub faults_of : Table D p f → ℕ
  faults_of table = f.count (disk_of table)

  abbrev pub IsTold : Table D p f → Type 0
  IsTold table = IsTrue (p.told (disk_of table))

  abbrev pub IsSteady : Table D p f → Type 0
  IsSteady table = IsTrue (f.steady (disk_of table))

  -- a file of the table's header that loads, and that stands for the table
  pub record Keeps (table : Table D p f) (file : List ℕ) : Type 0 where
    pub loads : IsTableFile (header_of table) (2 ^ (plan_of table).h) file
    pub stands : StandsFor file (state_of table)

  -- What holds of every table: what a read gives and each image that a crash may leave is a file that loads and stands
  -- for it, an entry is in doubt only if a call of the disk has failed, and each entry may follow those before it, the
  -- one in doubt too.
  pub record Holds (table : Table D p f) : Type 0 where
    pub reads : IsTold table → Keeps table (p.reads (disk_of table))
    pub images : IsTold table → IsTrue (p.honest (disk_of table))
        → (image : List ℕ) → p.may_leave (disk_of table) image → Keeps table image
    pub cause : faults_of table ≡ 0 → (state_of table).doubt ≡ None
    pub one_lease : KeepsOneLease (state_of table)

  -- what no call changes
  pub record Stays (old new : Table D p f) : Type 0 where
    pub plan : plan_of new ≡ plan_of old
    pub header : header_of new ≡ header_of old
    pub disk : SameDisk p f (disk_of old) (disk_of new)

  -- What leasing and burning say about the disk: no slot is found damaged if the disk tells its content, a steady disk
  -- that tells it does not fail, and the count rises if the answer is Device and not otherwise.
  pub record Enters {R : Type 0} (old new : Table D p f) (result : Result R TableFault) : Type 0 where
    pub told : IsTold old → (leaf a b : ℕ) → result ≢ Err (Damaged leaf a b)
    pub succeeds : IsSteady old → IsTold old → result ≢ Err Device
    pub cause : RisesAt (faults_of old) (faults_of new) result (Err Device)
    pub stays : Stays old new
