-- How `migrate` ends: it reads the share, tests that the new name is not in the store, opens the old journal, and
-- copies its slots into the new one.
use Rattle.std.specs.Prelude.{◌≡◌, ◌^◌, ℕ, List, [], ◌∷◌, Some, None, IsTrue}
use Rattle.disk_trait.specs.Images.{Only}
use Rattle.share_files.specs.declared.share.Share.{Share}
use Rattle.slot_file.specs.Copies.{IsCopy, IsFirstDamaged, slots_in, taken_count}
use Rattle.slot_file.specs.Fresh.{IsUnready}
use Rattle.slot_file.specs.Layout.{load_fault}
use Rattle.slot_file.specs.declared.header.Header.{Header}
use Rattle.slot_file.specs.declared.header.LoadFault.{LoadFault}
use Rattle.tool_base.specs.Ending as ending
use Rattle.tool_base.specs.Ending.{Ending}
use Rattle.tool_base.specs.Grammars.{FailsGrammar, IsShareRead, share_fault_number}
use Rattle.tool_base.specs.Outputs.{IsNew, IsNotNew, IsNotWritten}
use Rattle.tool_base.specs.World.{StoreRun}
use Rattle.tool_base.specs.Disks.{DeviceFails}
use Rattle.tool_journals.specs.Blanks.{IsHonest, IsNeverHalf, IsOwners}
use Rattle.tool_base.specs.Loads.{load_fault_number}
use Rattle.tool_journals.specs.Taking.{IsNotTaken}
use Rattle.trustee_core.specs.Trustee.{journal_header}

-- this project's profile: the header of a journal of version 1, whose slots have no moment
abbrev pub old_header : Share → Header
old_header share = record {
  version = 1;
  number = share.member;
  lms = share.params.lms;
  ots = share.params.ots;
  id = share.id;
}

-- how many slots a journal has: one for each leaf
abbrev pub slot_count : Share → ℕ
slot_count share = 2 ^ share.params.h

-- The name stands for this file, as it did. A crash leaves nothing of it that it did not leave before.
pub record StandsStill (store : StoreRun) (name file : List ℕ) : Type 0 where
  pub before : IsTrue store.before.told → store.before.file name ≡ Some file
  pub after : IsTrue store.before.told → store.after.file name ≡ Some file
  pub images : IsTrue store.before.told → IsHonest store name
      → (image : List ℕ) → store.after.leaves name image → store.before.leaves name image

-- the name stands for a file that does not open, and a crash leaves no other; only its owner may read it
pub record IsShut (store : StoreRun) (name : List ℕ) : Type 0 where
  pub file : IsTrue store.before.told → (bytes : List ℕ) × (store.after.file name ≡ Some bytes) × IsUnready bytes
  pub images : IsTrue store.before.told → IsHonest store name
      → (image : List ℕ) → store.after.leaves name image → IsUnready image
  pub owners : IsOwners store name

-- the name stands for a file with the slots of this one, which opens with the share's header and is stable; only its
-- owner may read it
pub record IsCopied (store : StoreRun) (share : Share) (name file : List ℕ) : Type 0 where
  pub copy : IsTrue store.before.told → (bytes : List ℕ) × (store.after.file name ≡ Some bytes)
      × IsCopy (journal_header share) (slot_count share) 1 file bytes
      × (IsHonest store name → Only bytes (store.after.leaves name))
  pub owners : IsOwners store name

-- What became of copying this file under a new name, if a failed call of a disk has this cause, with the names that
-- were touched. It is opened as a journal of version 1.
pub data CopyEnds (failed : Type 0) (store : StoreRun) (share : Share) (new file : List ℕ)
    : Ending → List (List ℕ) → Type 0 where
  not_read : failed → CopyEnds failed store share new file ending.DeviceFailed []
  not_opened : (fault : LoadFault)
      → (IsTrue store.before.told → load_fault (old_header share) (slot_count share) file ≡ Some fault)
      → CopyEnds failed store share new file (ending.NotLoaded (load_fault_number fault)) []
  not_made : (end : Ending) → (IsTrue store.before.told → load_fault (old_header share) (slot_count share) file ≡ None)
      → IsNotWritten store [] new end → CopyEnds failed store share new file end []
  not_empty : (IsTrue store.before.told → ⊥) → CopyEnds failed store share new file (ending.NotLoaded 7) (new ∷ [])
  damaged : (slot a b : ℕ)
      → (IsTrue store.before.told → load_fault (old_header share) (slot_count share) file ≡ None)
      → (IsTrue store.before.told → IsFirstDamaged 1 (slot_count share) file slot a b) → IsShut store new
      → CopyEnds failed store share new file (ending.NotLoaded 6) (new ∷ [])
  device : (IsTrue store.before.told → load_fault (old_header share) (slot_count share) file ≡ None) → failed
      → IsNeverHalf (IsCopy (journal_header share) (slot_count share) 1 file) store new
      → CopyEnds failed store share new file ending.DeviceFailed (new ∷ [])
  migrated : (taken : ℕ) → (IsTrue store.before.told → load_fault (old_header share) (slot_count share) file ≡ None)
      → (IsTrue store.before.told → taken ≡ taken_count (slots_in 1 (slot_count share) file))
      → IsCopied store share new file → CopyEnds failed store share new file (ending.Migrated taken) (new ∷ [])

-- what became of the share, of the two names and of the copy, with the names that were touched
pub data MigrateEnds (store : StoreRun) (share journal new : List ℕ) : Ending → List (List ℕ) → Type 0 where
  no_share : (end : Ending) → FailsGrammar share_fault_number store share end
      → MigrateEnds store share journal new end []
  not_new : (found : Share) (end : Ending) → IsShareRead store share found → IsNotNew store new end
      → MigrateEnds store share journal new end []
  not_taken : (found : Share) (end : Ending) → IsShareRead store share found → IsNew store new
      → IsNotTaken store journal end → MigrateEnds store share journal new end []
  taken : (found : Share) (file : List ℕ) (end : Ending) (touched : List (List ℕ)) → IsShareRead store share found
      → IsNew store new → StandsStill store journal file
      → CopyEnds (DeviceFails store) store found new file end touched
      → MigrateEnds store share journal new end (journal ∷ touched)
