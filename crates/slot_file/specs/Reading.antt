-- What reading the slots of a file gives. Only contracts inside the crate speak of it.
use Rattle.std.specs.Prelude.{◌≡◌, ◌≤◌, ◌<◌, ◌+◌, ℕ, List, length, false}
use Rattle.disk_trait.specs.declared.disk.Pages as pages
use Rattle.disk_trait.specs.declared.faults.Faults as faults
use Rattle.slot_file.specs.declared.faults.CacheLoad.{CacheLoad}
use Rattle.slot_file.specs.declared.faults.CacheLoad.TheVariants as load
use Rattle.slot_file.specs.State.{slot_in}
use Rattle.slot_file.specs.Copies.{is_damaged}
use Rattle.slot_file.specs.Disks.{Unwritten}
use Rattle.slot_file.specs.Layout.{slot_at}
use Rattle.slot_file.specs.Slots.{Stays, disk_of, doubt_of}
use Rattle.slot_file.specs.declared.header.LoadFault.{LoadFault}
use Rattle.slot_file.specs.declared.header.LoadFault.TheVariants.{Device}
use Rattle.slot_file.specs.declared.slot.Slot.{Slot}
use Rattle.slot_file.specs.declared.slot.Slot.TheVariants.{Damaged}
use Rattle.slot_file.specs.declared.slots.Doubt.TheVariants.{Nowhere}
use Rattle.slot_file.specs.declared.slots.Slots.{Slots}

-- a file of slots that is refused
abbrev pub refused_by : LoadFault → CacheLoad
refused_by Device = load.Device
refused_by fault = load.Slots fault

-- the first damaged slot of a run, which begins at slot `first`
pub record IsFirstInRun (first : ℕ) (run : List Slot) (slot a b : ℕ) : Type 0 where
  pub place : ℕ
  pub within : place < length run
  pub slot_is : slot ≡ first + place
  pub here : slot_in run place ≡ Damaged a b
  pub before : (earlier : ℕ) → earlier < place → is_damaged (slot_in run earlier) ≡ false

-- the first damaged slot among `count` slots of a file, from `first` on
pub record IsFirstFrom (version first count : ℕ) (file : List ℕ) (slot a b : ℕ) : Type 0 where
  pub behind : first ≤ slot
  pub within : slot < first + count
  pub here : slot_at version slot file ≡ Damaged a b
  pub before : (earlier : ℕ) → first ≤ earlier → earlier < slot → is_damaged (slot_at version earlier file) ≡ false

-- a run is refused for its first damaged slot
abbrev pub IsRunRefused : ℕ → List Slot → CacheLoad → Type 0
IsRunRefused first run (load.Damaged slot a b) = IsFirstInRun first run slot a b
IsRunRefused first run load.Device = ⊥
IsRunRefused first run (load.Slots fault) = ⊥
IsRunRefused first run load.NoMemory = ⊥

-- that many slots of a file are not read: one is damaged and is the first such, or the disk failed
abbrev pub IsReadRefused : ℕ → ℕ → ℕ → List ℕ → CacheLoad → Type 0
IsReadRefused version first count file (load.Damaged slot a b) = IsFirstFrom version first count file slot a b
IsReadRefused version first count file load.Device = Unit {0}
IsReadRefused version first count file (load.Slots fault) = ⊥
IsReadRefused version first count file load.NoMemory = ⊥

-- Slots were looked at: nothing is written, and if nothing was in doubt nothing is now.
pub record LooksOnly {D : Type 0} {p : pages.Ghosts D} {f : faults.Ghosts D} (old new : Slots D p f) : Type 0 where
  pub unwritten : Unwritten p f (disk_of old) (disk_of new)
  pub doubt : doubt_of old ≡ Nowhere → doubt_of new ≡ Nowhere
  pub stays : Stays old new
