-- The commitments of a dealing, which are read through a view of their file, PREFIX.commit.
use Rattle.std.specs.Prelude.{◌≡◌, ◌+◌, ◌-◌, ◌^◌, ◌≤◌, ℕ, Bool, List, Some, None, ◌++◌, codes, drop, length}
use Rattle.std.specs.Prelude.{min, IsTrue}
use Rattle.aggregator_session.specs.Runs.{CellsRead}
use Rattle.share_blame.specs.Loads.{commits_fault}
use Rattle.share_blame.specs.declared.faults.CommitsFault.{CommitsFault}
use Rattle.share_blame.specs.declared.faults.CommitsFault.TheVariants.{Device, File}
use Rattle.mask_prf.specs.Lengths.{all_commits_length}
use Rattle.share_files.specs.FaultNumbers.{file_fault_number}
use Rattle.share_files.specs.declared.faults.FileFault.{FileFault}
use Rattle.share_files.specs.declared.reference.RefHeader.{RefHeader}
use Rattle.tool_base.specs.Ending as ending
use Rattle.tool_base.specs.Ending.{Ending}
use Rattle.tool_base.specs.World.{StoreRun, Failed, IsRead}
use Rattle.tool_base.specs.Disks.{DeviceFails}
use Rattle.tool_base.specs.Loads.{ReadsAs}
use Rattle.tool_sign.specs.Tasks.{SessionWords}

-- the name of the commitment file of a dealing
abbrev pub commits_name : List ℕ → List ℕ
commits_name prefix = prefix ++ codes ".commit"

-- a file has the commitments that go with a reference of this header
abbrev pub GoesWithReference : RefHeader → List ℕ → Type 0
GoesWithReference header file = commits_fault header file ≡ None

-- a file has the commitments that go with a reference of this header, and all of them
pub record AreCommitsOf (header : RefHeader) (file : List ℕ) : Type 0 where
  pub faultless : GoesWithReference header file
  pub whole : length (drop 32 file) ≡ all_commits_length header.params header.plan

-- the first fault of a file as these commitments
abbrev pub AreNoCommits : RefHeader → FileFault → List ℕ → Type 0
AreNoCommits header fault file = commits_fault header file ≡ Some fault

-- the file of this name has the commitments that go with the reference
pub record AreCommitsViewed (store : StoreRun) (name : List ℕ) (header : RefHeader) : Type 0 where
  pub reads : ReadsAs store name (GoesWithReference header)

-- The end if there are no commitments under this name: no view could be taken, the file has none that go with the
-- reference, a read of the view failed, or memory ran out.
pub data FailsCommits (store : StoreRun) (name : List ℕ) (header : RefHeader) : Ending → Type 0 where
  no_view : IsRead store name Failed → FailsCommits store name header ending.StoreFailed
  not_in_grammar : (fault : FileFault) → ReadsAs store name (AreNoCommits header fault)
      → FailsCommits store name header (ending.Unreadable name (file_fault_number fault))
  device : DeviceFails store → FailsCommits store name header ending.DeviceFailed
  no_memory : FailsCommits store name header ending.NoMemory

-- a file has these commitments, which go with a reference of this header
pub record HasCommits (header : RefHeader) (leaves file : List ℕ) : Type 0 where
  pub goes : GoesWithReference header file
  pub leaves_are : leaves ≡ drop 32 file

-- The commitments of the words are read, with no fault before, through a view that is steady if the store is. The
-- faults of reading are among those of the store's disks and views.
pub record ReadsCommits (words : SessionWords) (store : StoreRun) (header : RefHeader) (reads : CellsRead)
    (steady : Bool) : Type 0 where
  pub told : IsTrue store.before.told → IsTrue reads.told
  pub steady_is : IsTrue store.before.steady → IsTrue steady
  pub leaves : ReadsAs store (commits_name words.prefix) (HasCommits header reads.leaves)
  pub fresh : reads.before ≡ 0
  pub rise : min (store.before.disk_count + reads.now) (2 ^ 64 - 1) ≤ store.after.disk_count

-- internal: the end for each fault of the commitments, in the file of this name
abbrev pub end_of_commits : List ℕ → CommitsFault → Ending
end_of_commits name (File fault) = ending.Unreadable name (file_fault_number fault)
end_of_commits name Device = ending.DeviceFailed
