-- What loading a cache gives.
use Rattle.std.specs.Prelude.{◌≡◌, ℕ, List, Some, None, IsTrue}
use Rattle.disk_trait.specs.declared.disk.Pages as pages
use Rattle.disk_trait.specs.declared.faults.Faults as faults
use Rattle.slot_file.specs.Cache.{count_of, disk_of, faults_of, header_of, state_of}
use Rattle.slot_file.specs.State.{HasSlots}
use Rattle.slot_file.specs.declared.cache.CachedSlots.{CachedSlots}
use Rattle.slot_file.specs.declared.faults.CacheLoad.{CacheLoad}
use Rattle.slot_file.specs.declared.faults.CacheLoad.TheVariants as load
use Rattle.slot_file.specs.Copies.{IsFirstDamaged}
use Rattle.slot_file.specs.Disks.{Unwritten}
use Rattle.slot_file.specs.Layout.{load_fault}
use Rattle.slot_file.specs.declared.header.Header.{Header}
use Rattle.slot_file.specs.declared.header.LoadFault.{LoadFault}

-- a cache with the slots of a disk's file, and no put in doubt
pub record IsLoaded {D : Type 0} (p : pages.Ghosts D) (f : faults.Ghosts D) (header : Header) (count : ℕ) (disk : D)
    (cache : CachedSlots D p f) : Type 0 where
  pub file : IsTrue (p.told disk) → HasSlots header (state_of cache).slots (p.reads disk)
  pub settled : (state_of cache).doubt ≡ None
  pub named : header_of cache ≡ header
  pub size : count_of cache ≡ count
  pub unwritten : Unwritten p f disk (disk_of cache)
  pub faults : faults_of cache ≡ f.count disk

-- why a file is not loaded, by the first test that fails
pub data LoadRefused (header : Header) (count : ℕ) (file : List ℕ) : CacheLoad → Type 0 where
  other_file : (fault : LoadFault) → load_fault header count file ≡ Some fault
      → LoadRefused header count file (load.Slots fault)
  no_memory : load_fault header count file ≡ None → LoadRefused header count file load.NoMemory
  damaged : (slot a b : ℕ) → load_fault header count file ≡ None
      → IsFirstDamaged header.version count file slot a b → LoadRefused header count file (load.Damaged slot a b)
  device : LoadRefused header count file load.Device
