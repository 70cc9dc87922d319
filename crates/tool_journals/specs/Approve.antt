-- How `approve` ends: it reads the share and the message, takes the book out of the store or makes it, and adds the
-- message's id to it.
use Rattle.std.specs.Prelude.{◌≡◌, ◌↔◌, ℕ, List, [], ◌∷◌, Some, IsTrue}
use Rattle.lms_bytes.specs.MessageId.{message_id, message_id_bytes}
use Rattle.share_files.specs.declared.share.Share.{Share}
use Rattle.slot_file.specs.Fresh as file
use Rattle.slot_file.specs.declared.header.Header.{Header}
use Rattle.stream_io.specs.Store.{PagesState, StoreState, has_name}
use Rattle.tool_base.specs.Ending as ending
use Rattle.tool_base.specs.Ending.{Ending}
use Rattle.tool_base.specs.Grammars.{FailsGrammar, IsShareRead, share_fault_number}
use Rattle.tool_base.specs.Outputs.{CallFailed, IsNew}
use Rattle.tool_base.specs.Reads.{FailsToRead}
use Rattle.tool_base.specs.World.{StoreRun, Bytes, IsRead}
use Rattle.tool_journals.specs.Adding.{AddEnds, FileRun}
use Rattle.tool_base.specs.Disks.{DeviceFails}
use Rattle.tool_journals.specs.Blanks.{IsBlankDisk, IsNotMade, IsOwners}
use Rattle.tool_base.specs.Headers.{book_header}
use Rattle.tool_base.specs.Disks.{IsOut}
use Rattle.tool_journals.specs.Taking.{IsNotTaken}

-- the end if there is no disk of the book, with the names that were touched
pub data IsNotOpened (store : StoreRun) (book : List ℕ) (header : Header) : Ending → List (List ℕ) → Type 0 where
  look_failed : CallFailed store → IsNotOpened store book header ending.StoreFailed []
  no_memory_to_look : IsNotOpened store book header ending.NoMemory []
  not_taken : (end : Ending) → (IsTrue store.before.told → IsTrue (has_name store.before book))
      → IsNotTaken store book end → IsNotOpened store book header end []
  not_made : (end : Ending) (touched : List (List ℕ)) → IsNew store book
      → IsNotMade store book header 1024 end touched → IsNotOpened store book header end touched

-- the disk of the book is out: it was there, or is new and blank
pub data IsBookDisk (old : StoreState) (book : List ℕ) (header : Header) (disk : PagesState) (new : StoreState)
    : Type 0 where
  was_there : IsOut old book disk new → (IsTrue old.told → old.file book ≡ Some disk.reads)
      → (IsTrue old.told → (image : List ℕ) → disk.may_leave image ↔ old.leaves book image)
      → IsBookDisk old book header disk new
  is_new : IsBlankDisk old book header 1024 disk new → IsBookDisk old book header disk new

-- the file of this name during a run of the store, given the bytes that it had and has
abbrev pub file_run : StoreRun → List ℕ → List ℕ → List ℕ → (List ℕ → Type 0) → FileRun
file_run store name before after left = record {
  told = store.before.told;
  honest = (store.before.disks name).honest;
  before = before;
  after = after;
  left = left;
  leaves = store.after.leaves name;
}

-- the file of this name is a message with this id
pub record IsMessageRead (store : StoreRun) (name id : List ℕ) : Type 0 where
  pub text : List ℕ
  pub read : IsRead store name (Bytes text)
  pub is : id ≡ message_id_bytes (message_id text)

-- what became of the share, of the message and of the book, with the names that were touched
pub data ApproveEnds (store : StoreRun) (share book message : List ℕ) : Ending → List (List ℕ) → Type 0 where
  no_share : (end : Ending) → FailsGrammar share_fault_number store share end
      → ApproveEnds store share book message end []
  no_message : (found : Share) (end : Ending) → IsShareRead store share found → FailsToRead store message end
      → ApproveEnds store share book message end []
  no_book : (found : Share) (id : List ℕ) (end : Ending) (touched : List (List ℕ)) → IsShareRead store share found
      → IsMessageRead store message id → IsNotOpened store book (book_header found) end touched
      → ApproveEnds store share book message end touched
  in_book : (found : Share) (id bytes after : List ℕ) (end : Ending) → IsShareRead store share found
      → IsMessageRead store message id → (IsTrue store.before.told → store.before.file book ≡ Some bytes)
      → (IsTrue store.before.told → store.after.file book ≡ Some after)
      → AddEnds (DeviceFails store) (file_run store book bytes after (store.before.leaves book)) (book_header found) id
      end → ApproveEnds store share book message end (book ∷ [])
  in_new_book : (found : Share) (id bytes after : List ℕ) (end : Ending) → IsShareRead store share found
      → IsMessageRead store message id → IsNew store book
      → (IsTrue store.before.told → file.IsNew (book_header found) 1024 bytes) → IsOwners store book
      → (IsTrue store.before.told → store.after.file book ≡ Some after)
      → AddEnds (DeviceFails store) (file_run store book bytes after (λ image. image ≡ bytes)) (book_header found) id
      end → ApproveEnds store share book message end (book ∷ [])
