-- What loading a book and adding a message to it does to the book's file.
use Rattle.std.specs.Prelude.{◌≡◌, ◌||◌, ℕ, Bool, List, Ok, Err, Some, None, IsTrue, nat_eq}
use Rattle.std.specs.Cmp.Lexicographic.{pointwise}
use Rattle.approval_book.specs.Listed.{AddsTo, is_listed}
use Rattle.approval_book.specs.declared.faults.BookFault.TheVariants.{Device, Full}
use Rattle.disk_trait.specs.Faults.{Rose}
use Rattle.disk_trait.specs.declared.disk.Pages as pages
use Rattle.disk_trait.specs.declared.faults.Faults as faults
use Rattle.opening_journal.specs.declared.faults.Entered.{Entered}
use Rattle.slot_file.specs.State.{CacheState, HasSlots, StandsFor}
use Rattle.slot_file.specs.Copies.{IsFirstDamaged, taken_count}
use Rattle.slot_file.specs.Layout.{load_fault}
use Rattle.slot_file.specs.declared.header.Header.{Header}
use Rattle.slot_file.specs.declared.header.LoadFault.{LoadFault}
use Rattle.slot_file.specs.declared.slot.Slot.{Slot}
use Rattle.tool_base.specs.Ending as ending
use Rattle.tool_base.specs.Ending.{Ending}
use Rattle.tool_base.specs.Loads.{load_fault_number}

-- A file during a call: whether its content is told, whether it keeps the model of crashes, what a read gave and gives,
-- and what a crash might have left of it and may leave.
pub record FileRun : Type 1 where
  pub told : Bool
  pub honest : Bool
  pub before : List ℕ
  pub after : List ℕ
  pub left : List ℕ → Type 0
  pub leaves : List ℕ → Type 0

module _ {D : Type 0} (p : pages.Ghosts D) where
  -- a disk's file
  abbrev pub disk_run : D → D → FileRun
  disk_run old new = record {
    told = p.told old;
    honest = p.honest old;
    before = p.reads old;
    after = p.reads new;
    left = p.may_leave old;
    leaves = p.may_leave new;
  }

  -- a call of a disk failed: its count rose, and it is not steady or does not tell its content
  pub record DiskFails (f : faults.Ghosts D) (old new : D) : Type 0 where
    pub rose : Rose (f.count old) (f.count new)
    pub unsteady : IsTrue (p.told old) → IsTrue (f.steady old) → ⊥

-- a read gives what it gave, and a crash leaves nothing that it might not have left before
pub record IsStill (file : FileRun) : Type 0 where
  pub same : IsTrue file.told → file.after ≡ file.before
  pub images : IsTrue file.told → IsTrue file.honest → (image : List ℕ) → file.leaves image → file.left image

-- what a read gives, and each image that a crash may leave, stands for these slots and this put in doubt
pub record Stands (file : FileRun) (header : Header) (state : CacheState) : Type 0 where
  pub reads : IsTrue file.told → StandsFor header state file.after
  pub images : IsTrue file.told → IsTrue file.honest → (image : List ℕ) → file.leaves image
      → StandsFor header state image

-- the book opens, and has these 1024 slots
abbrev pub HasListed : FileRun → Header → List Slot → Type 0
HasListed file header slots = IsTrue file.told → HasSlots header slots file.before

-- slots that list what these list, and this id
abbrev pub ListsAlso : List Slot → List ℕ → List Slot → Type 0
ListsAlso before id after =
    (other : List ℕ) → is_listed after other ≡ (pointwise nat_eq other id || is_listed before other)

-- What became of adding a message to a book with this header, if a failed call of the disk has this cause: the book
-- does not open, a slot is damaged, or the message is added to the slots.
pub data AddEnds (failed : Type 0) (file : FileRun) (header : Header) (id : List ℕ) : Ending → Type 0 where
  not_read : failed → IsStill file → AddEnds failed file header id ending.DeviceFailed
  not_opened : (fault : LoadFault) → (IsTrue file.told → load_fault header 1024 file.before ≡ Some fault)
      → IsStill file → AddEnds failed file header id (ending.NotLoaded (load_fault_number fault))
  no_memory_to_load : (IsTrue file.told → load_fault header 1024 file.before ≡ None) → IsStill file
      → AddEnds failed file header id ending.NoMemory
  damaged : (slot a b : ℕ) → (IsTrue file.told → load_fault header 1024 file.before ≡ None)
      → (IsTrue file.told → IsFirstDamaged header.version 1024 file.before slot a b) → IsStill file
      → AddEnds failed file header id (ending.NotLoaded 6)
  device : (slots : List Slot) (after : CacheState) → HasListed file header slots → AddsTo slots id (Err Device) after
      → failed → Stands file header after → AddEnds failed file header id ending.DeviceFailed
  full : (slots : List Slot) (after : CacheState) → HasListed file header slots → AddsTo slots id (Err Full) after
      → Stands file header after → AddEnds failed file header id ending.BookFull
  approved : (slots : List Slot) (entered : Entered) (after : CacheState) → HasListed file header slots
      → AddsTo slots id (Ok entered) after → ListsAlso slots id after.slots → Stands file header after
      → AddEnds failed file header id (ending.Approved (taken_count after.slots))
