-- Files of slots that could not be loaded.
use Rattle.std.specs.Prelude.{◌≡◌, ℕ, List, Some, IsTrue}
use Rattle.slot_file.specs.declared.faults.CacheLoad.{CacheLoad}
use Rattle.slot_file.specs.declared.faults.CacheLoad.TheVariants as cache
use Rattle.slot_file.specs.Copies.{IsFirstDamaged}
use Rattle.slot_file.specs.Layout.{load_fault}
use Rattle.slot_file.specs.declared.header.Header.{Header}
use Rattle.slot_file.specs.declared.header.LoadFault.{LoadFault}
use Rattle.slot_file.specs.declared.header.LoadFault.TheVariants.{Length, NotReady, Version, Foreign, Device}
use Rattle.tool_base.specs.Ending as ending
use Rattle.tool_base.specs.Ending.{Ending}
use Rattle.tool_base.specs.World.{StoreRun}
use Rattle.tool_base.specs.Disks.{DeviceFails}

-- the order of the tests
abbrev pub load_fault_number : LoadFault → ℕ
load_fault_number (Length got want) = 1
load_fault_number (NotReady gate) = 2
load_fault_number (Version got) = 3
load_fault_number (Foreign kept) = 4
load_fault_number Device = 5

-- a file of this header and `count` slots does not open, by this fault
pub record IsOtherFile (header : Header) (count : ℕ) (fault : LoadFault) (file : List ℕ) : Type 0 where
  pub fault_is : load_fault header count file ≡ Some fault

-- the first damaged slot of a file that opens
pub record IsDamagedFile (header : Header) (count : ℕ) (file : List ℕ) : Type 0 where
  pub slot : ℕ
  pub a : ℕ
  pub b : ℕ
  pub first : IsFirstDamaged header.version count file slot a b

-- the store reads this name as such a file, if it tells its content
pub record ReadsAs (store : StoreRun) (name : List ℕ) (Is : List ℕ → Type 0) : Type 0 where
  pub file : List ℕ
  pub is_read : IsTrue store.before.told → store.before.file name ≡ Some file
  pub is : IsTrue store.before.told → Is file

-- the end if a file of slots under this name was not loaded
pub data FailsToLoad (header : Header) (count : ℕ) (store : StoreRun) (name : List ℕ) : Ending → Type 0 where
  other_file : (fault : LoadFault) → ReadsAs store name (IsOtherFile header count fault)
      → FailsToLoad header count store name (ending.NotLoaded (load_fault_number fault))
  damaged : ReadsAs store name (IsDamagedFile header count)
      → FailsToLoad header count store name (ending.NotLoaded 6)
  device : DeviceFails store → FailsToLoad header count store name ending.DeviceFailed
  no_memory : FailsToLoad header count store name ending.NoMemory

-- the end of each fault of loading
abbrev pub end_of_slots : CacheLoad → Ending
end_of_slots (cache.Slots fault) = ending.NotLoaded (load_fault_number fault)
end_of_slots cache.NoMemory = ending.NoMemory
end_of_slots (cache.Damaged slot a b) = ending.NotLoaded 6
end_of_slots cache.Device = ending.DeviceFailed
