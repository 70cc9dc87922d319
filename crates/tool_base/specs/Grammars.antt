-- Files that have to be in a grammar.
use Rattle.std.specs.Prelude.{◌≡◌, ℕ, List, Option, Some, option_map}
use Rattle.share_files.specs.FaultNumbers.{file_fault_number}
use Rattle.share_files.specs.Share.{share_bytes, share_fault}
use Rattle.share_files.specs.Sets.{CanBeDealt}
use Rattle.share_files.specs.declared.share.Share.{Share}
use Rattle.tool_base.specs.Ending as ending
use Rattle.tool_base.specs.Ending.{Ending}
use Rattle.tool_base.specs.Reads.{FailsToRead}
use Rattle.tool_base.specs.World.{StoreRun, Bytes, IsRead}

-- the end if the file of this name could not be read, or is not in the grammar of these faults
pub data FailsGrammar (fault_of : List ℕ → Option ℕ) (store : StoreRun) (name : List ℕ) : Ending → Type 0 where
  not_read : (end : Ending) → FailsToRead store name end → FailsGrammar fault_of store name end
  not_in_grammar : (bytes : List ℕ) (fault : ℕ) → IsRead store name (Bytes bytes) → fault_of bytes ≡ Some fault
      → FailsGrammar fault_of store name (ending.Unreadable name fault)

-- the number of the first fault of bytes as a share
abbrev pub share_fault_number : List ℕ → Option ℕ
share_fault_number bytes = option_map file_fault_number (share_fault bytes)

-- the file of this name is this share
pub record IsShareRead (store : StoreRun) (name : List ℕ) (share : Share) : Type 0 where
  pub read : IsRead store name (Bytes (share_bytes share))
  pub dealt : CanBeDealt share.params
