-- Journals and books of a service, in terms of their files.
use Rattle.std.specs.Prelude.{◌≡◌, ◌↔◌, ◌^◌, ℕ, List, length, Option, Some, None, IsTrue, Contains}
use Rattle.approval_book.specs.Listed.{is_listed}
use Rattle.opening_journal.specs.Entries.{HasEntries, IsLegalList, JournalState, StandsFor}
use Rattle.opening_journal.specs.Opening.{SettlesTo}
use Rattle.opening_journal.specs.Loading.{IsJournalFile, entries_of_file}
use Rattle.opening_journal.specs.declared.entry.Entry.{Entry}
use Rattle.share_files.specs.declared.share.Share.{Share}
use Rattle.slot_file.specs.State.{HasSlots}
use Rattle.slot_file.specs.declared.slot.Slot.{Slot}
use Rattle.tool_base.specs.World.{StoreRun}
use Rattle.tool_base.specs.Headers.{book_header}
use Rattle.tool_base.specs.Loads.{ReadsAs}
use Rattle.trustee_core.specs.Trustee.{journal_header}

-- the journal of this share's trustee, with just these entries
pub record IsJournal (share : Share) (entries : List Entry) (file : List ℕ) : Type 0 where
  pub loads : IsJournalFile (journal_header share) (2 ^ share.params.h) file
  pub entries_are : entries ≡ entries_of_file share.params.n (2 ^ share.params.h) file
  pub has : HasEntries share.params.n (2 ^ share.params.h) file entries

-- the journal of this share's trustee, which stands for this state
pub record StandsAs (share : Share) (state : JournalState) (file : List ℕ) : Type 0 where
  pub loads : IsJournalFile (journal_header share) (2 ^ share.params.h) file
  pub stands : StandsFor share.params.n (2 ^ share.params.h) file state

-- The journal of this name stands for this state at the end, and so does each image that a crash may leave. Each of its
-- entries may follow those before, and so may the one in doubt.
pub record LeavesJournal (store : StoreRun) (name : List ℕ) (share : Share) (state : JournalState) : Type 0 where
  pub file : List ℕ
  pub is_read : IsTrue store.before.told → store.after.file name ≡ Some file
  pub stands : IsTrue store.before.told → StandsAs share state file
  pub images : IsTrue store.before.told → IsTrue (store.before.disks name).honest → (image : List ℕ)
      → store.after.leaves name image → StandsAs share state image
  pub legal : (entries : List Entry) → SettlesTo state entries → IsLegalList entries

-- the book of this share's trustee, whose 1024 slots list just these ids
pub record IsBook (share : Share) (ids : List (List ℕ)) (file : List ℕ) : Type 0 where
  pub slots : List Slot
  pub has : HasSlots (book_header share) slots file
  pub many : length slots ≡ 1024
  pub lists : (id : List ℕ) → Contains ids id ↔ IsTrue (is_listed slots id)

-- the ids of the book of the words, or none if they name no book
pub data HasBook (store : StoreRun) (share : Share) : Option (List ℕ) → Option (List (List ℕ)) → Type 0 where
  no_book : HasBook store share None None
  book : (name : List ℕ) (ids : List (List ℕ)) → ReadsAs store name (IsBook share ids)
      → HasBook store share (Some name) (Some ids)
