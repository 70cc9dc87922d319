-- How `enrol` ends: it reads the share of a trustee or the reference file of an aggregator, and makes the journal or
-- the leaf table that goes with it.
use Rattle.std.specs.Prelude.{◌≡◌, ◌^◌, ℕ, Bool, true, false, List, [], ◌∷◌, Option, Some, take, if◌then◌else◌}
use Rattle.std.specs.Str.{bytes_eq}
use Rattle.share_files.specs.FaultNumbers.{file_fault_number}
use Rattle.share_files.specs.Reference.{HasReferenceLayout, reference_fault, reference_magic}
use Rattle.share_files.specs.Sets.{CanBeDealt}
use Rattle.share_files.specs.Share.{share_bytes, share_fault, share_magic}
use Rattle.share_files.specs.declared.faults.FileFault.{FileFault}
use Rattle.share_files.specs.declared.faults.FileFault.TheVariants.{Magic}
use Rattle.share_files.specs.declared.reference.RefHeader.{RefHeader}
use Rattle.share_files.specs.declared.share.Share.{Share}
use Rattle.slot_file.specs.declared.header.Header.{Header}
use Rattle.tool_base.specs.Ending as ending
use Rattle.tool_base.specs.Ending.{Ending}
use Rattle.tool_base.specs.Contents.{FailsToFind}
use Rattle.tool_base.specs.Loads.{ReadsAs}
use Rattle.tool_base.specs.World.{StoreRun, Bytes, TooLong, IsRead}
use Rattle.tool_journals.specs.Blanks.{IsMade, IsNotMade}
use Rattle.trustee_core.specs.Trustee.{journal_header}

-- this project's profile: the header of a leaf table
abbrev pub table_header : RefHeader → Header
table_header reference = record {
  version = 1;
  number = 0;
  lms = reference.params.lms;
  ots = reference.params.ots;
  id = reference.id;
}

-- bytes that begin with these four
abbrev pub begins_with : List ℕ → List ℕ → Bool
begins_with magic bytes = bytes_eq magic (take 4 bytes)

-- The first fault of bytes as the kind of file they begin as. Bytes that begin as neither kind have another magic.
unfoldable pub enrol_fault : List ℕ → Option FileFault
enrol_fault bytes =
    if begins_with share_magic bytes then share_fault bytes
    else (if begins_with reference_magic bytes then reference_fault bytes else Some Magic)

-- bytes are the reference file with this header and some leaves
abbrev pub IsReferenceOf : RefHeader → List ℕ → Type 0
IsReferenceOf reference bytes = (leaves : List ℕ) × HasReferenceLayout reference bytes leaves

-- bytes that begin as a reference file, and have this first fault as one
pub record IsOther (fault : FileFault) (bytes : List ℕ) : Type 0 where
  pub letters : begins_with reference_magic bytes ≡ true
  pub fault_is : reference_fault bytes ≡ Some fault

-- the bytes go with a blank file with this header and this number of slots: those of a share with a journal, those of a
-- reference file with a leaf table
pub data GoWith (bytes : List ℕ) : Header → ℕ → Type 0 where
  journal : (share : Share) → bytes ≡ share_bytes share → CanBeDealt share.params
      → GoWith bytes (journal_header share) (2 ^ share.params.h)
  table : (reference : RefHeader) (leaves : List ℕ) → HasReferenceLayout reference bytes leaves
      → GoWith bytes (table_header reference) (2 ^ reference.params.h)

-- The file of this name goes with a blank file with this header and number of slots. It is read whole; or it is too
-- long for that, and is a reference of which the head and the length are read.
pub data IsEnrolled (store : StoreRun) (name : List ℕ) : Header → ℕ → Type 0 where
  whole : (bytes : List ℕ) (header : Header) (count : ℕ) → IsRead store name (Bytes bytes)
      → GoWith bytes header count → IsEnrolled store name header count
  long : (got : ℕ) (reference : RefHeader) → IsRead store name (TooLong got) → CanBeDealt reference.params
      → ReadsAs store name (IsReferenceOf reference)
      → IsEnrolled store name (table_header reference) (2 ^ reference.params.h)

-- the end if the file of this name goes with none
pub data FailsToEnrol (store : StoreRun) (name : List ℕ) : Ending → Type 0 where
  not_found : (end : Ending) → FailsToFind store name end → FailsToEnrol store name end
  not_in_grammar : (bytes : List ℕ) (fault : FileFault) → IsRead store name (Bytes bytes)
      → enrol_fault bytes ≡ Some fault → FailsToEnrol store name (ending.Unreadable name (file_fault_number fault))
  too_long : (got : ℕ) → IsRead store name (TooLong got)
      → ReadsAs store name (λ bytes. begins_with reference_magic bytes ≡ false)
      → FailsToEnrol store name (ending.TooLong got)
  no_reference : (got : ℕ) (fault : FileFault) → IsRead store name (TooLong got)
      → ReadsAs store name (IsOther fault)
      → FailsToEnrol store name (ending.Unreadable name (file_fault_number fault))

-- what became of the file and of the journal, with the names that were touched
pub data EnrolEnds (store : StoreRun) (file journal : List ℕ) : Ending → List (List ℕ) → Type 0 where
  not_read : (end : Ending) → FailsToEnrol store file end → EnrolEnds store file journal end []
  not_made : (header : Header) (count : ℕ) (end : Ending) (touched : List (List ℕ))
      → IsEnrolled store file header count → IsNotMade store journal header count end touched
      → EnrolEnds store file journal end touched
  enrolled : (header : Header) (count : ℕ) → IsEnrolled store file header count
      → IsMade store journal header count → EnrolEnds store file journal (ending.Enrolled header.number) (journal ∷ [])
