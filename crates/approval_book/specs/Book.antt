-- A book as contracts see it.
use Rattle.std.specs.Prelude.{ℕ}
use Rattle.disk_trait.specs.declared.disk.Pages as pages
use Rattle.disk_trait.specs.declared.faults.Faults as faults
use Rattle.approval_book.specs.declared.book.Book.{Book}
use Rattle.slot_file.specs.Cache.{disk_of as cache_disk, state_of as cache_state}
use Rattle.slot_file.specs.State.{CacheState}
use Rattle.slot_file.specs.declared.cache.CachedSlots.{CachedSlots}

module _ {D : Type 0} {p : pages.Ghosts D} {f : faults.Ghosts D} where
  -- its slots
  abbrev pub slots_of : Book D p f → CachedSlots D p f
  slots_of book = book.slots

  abbrev pub state_of : Book D p f → CacheState
  state_of book = cache_state book.slots

  abbrev pub disk_of : Book D p f → D
  disk_of book = cache_disk book.slots

  abbrev pub faults_of : Book D p f → ℕ
  faults_of book = f.count (disk_of book)
