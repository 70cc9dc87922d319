-- How `show` ends: it reads the whole file, or the head of one that is too long, and says what it holds, or why it does
-- not.
use Rattle.std.specs.Prelude.{◌≡◌, ℕ, Bool, false, List, Some}
use Rattle.share_files.specs.Commits.{commits_magic}
use Rattle.share_files.specs.Reference.{reference_magic}
use Rattle.tool_show.specs.Listing.{IsNotLoaded}
use Rattle.tool_base.specs.Ending as ending
use Rattle.tool_base.specs.Ending.{Ending}
use Rattle.tool_base.specs.Contents.{FailsToFind}
use Rattle.tool_base.specs.Loads.{ReadsAs}
use Rattle.tool_base.specs.World.{StoreRun, Bytes, TooLong, IsRead}
use Rattle.tool_show.specs.Kinds.{IsSlots, begins_with, kind_of, show_fault}
use Rattle.tool_show.specs.Shown.{IsShown}

-- the end if bytes are no file of their kind, or do not load
pub data IsNotShown (file bytes : List ℕ) : Ending → Type 0 where
  unreadable : (fault : ℕ) → show_fault bytes ≡ Some fault → IsNotShown file bytes (ending.Unreadable file fault)
  not_loaded : (fault : ℕ) → kind_of bytes ≡ Some IsSlots → IsNotLoaded bytes fault
      → IsNotShown file bytes (ending.NotLoaded fault)

-- bytes that begin neither as a reference nor as commitments
pub record HasOtherLetters (bytes : List ℕ) : Type 0 where
  pub no_reference : begins_with reference_magic bytes ≡ false
  pub no_commitments : begins_with commits_magic bytes ≡ false

-- what became of the file
pub data ShowEnds (store : StoreRun) (file : List ℕ) (leaves : Bool) : Ending → Type 0 where
  not_read : (end : Ending) → FailsToFind store file end → ShowEnds store file leaves end
  no_memory : ShowEnds store file leaves ending.NoMemory
  not_shown : (bytes : List ℕ) (end : Ending) → IsRead store file (Bytes bytes) → IsNotShown file bytes end
      → ShowEnds store file leaves end
  shown : (bytes text : List ℕ) → IsRead store file (Bytes bytes) → IsShown bytes leaves text
      → ShowEnds store file leaves (ending.Shown text)
  too_long : (got : ℕ) → IsRead store file (TooLong got) → ReadsAs store file HasOtherLetters
      → ShowEnds store file leaves (ending.TooLong got)
  long_not_shown : (got fault : ℕ) → IsRead store file (TooLong got)
      → ReadsAs store file (λ bytes. show_fault bytes ≡ Some fault)
      → ShowEnds store file leaves (ending.Unreadable file fault)
  long_shown : (got : ℕ) (text : List ℕ) → IsRead store file (TooLong got)
      → ReadsAs store file (λ bytes. IsShown bytes leaves text) → ShowEnds store file leaves (ending.Shown text)
