-- A cache of slots as contracts see it, and what always holds of it.
use Rattle.std.specs.Prelude.{◌≡◌, ◌<◌, ℕ, List, length, None, Some, IsTrue}
use Rattle.disk_trait.specs.declared.disk.Pages as pages
use Rattle.disk_trait.specs.declared.faults.Faults as faults
use Rattle.slot_file.specs.State.{CacheState, IsWhole, StandsFor}
use Rattle.slot_file.specs.declared.cache.CachedSlots.{CachedSlots}
use Rattle.slot_file.specs.declared.doubted.Doubted.{Doubted}
use Rattle.disk_trait.specs.SameDisk.{SameDisk}
use Rattle.slot_file.specs.Slots.{disk_of as slots_disk, header_of as slots_header}
use Rattle.slot_file.specs.declared.header.Header.{Header}

module _ {D : Type 0} {p : pages.Ghosts D} {f : faults.Ghosts D} where
  abbrev pub disk_of : CachedSlots D p f → D
  disk_of cache = slots_disk cache.slots

  abbrev pub header_of : CachedSlots D p f → Header
  header_of cache = slots_header cache.slots

  abbrev pub state_of : CachedSlots D p f → CacheState
  state_of cache = record { slots = cache.cached; doubt = cache.doubt }

  abbrev pub count_of : CachedSlots D p f → ℕ
  count_of cache = length cache.cached

  abbrev pub faults_of : CachedSlots D p f → ℕ
  faults_of cache = f.count (disk_of cache)

  abbrev pub IsTold : CachedSlots D p f → Type 0
  IsTold cache = IsTrue (p.told (disk_of cache))

  abbrev pub IsHonest : CachedSlots D p f → Type 0
  IsHonest cache = IsTrue (p.honest (disk_of cache))

  abbrev pub IsSteady : CachedSlots D p f → Type 0
  IsSteady cache = IsTrue (f.steady (disk_of cache))

  -- what a read gives, and what a crash may leave
  abbrev pub file_of : CachedSlots D p f → List ℕ
  file_of cache = p.reads (disk_of cache)

  abbrev pub MayLeave : CachedSlots D p f → List ℕ → Type 0
  MayLeave cache image = p.may_leave (disk_of cache) image

  -- What holds of every cache: what a read gives, and each image that a crash may leave, stands for its state, no slot
  -- is damaged, and a put is in doubt only if a call of the disk has failed.
  pub record Holds (cache : CachedSlots D p f) : Type 0 where
    pub reads : IsTold cache → StandsFor (header_of cache) (state_of cache) (file_of cache)
    pub images : IsTold cache → IsHonest cache → (image : List ℕ) → MayLeave cache image
        → StandsFor (header_of cache) (state_of cache) image
    pub whole : IsWhole (state_of cache).slots
    pub within : (doubted : Doubted) → (state_of cache).doubt ≡ Some doubted → doubted.slot < count_of cache
    pub cause : faults_of cache ≡ 0 → (state_of cache).doubt ≡ None

  -- what no call changes
  pub record Stays (old new : CachedSlots D p f) : Type 0 where
    pub header : header_of new ≡ header_of old
    pub count : count_of new ≡ count_of old
    pub disk : SameDisk p f (disk_of old) (disk_of new)
