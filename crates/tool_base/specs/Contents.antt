-- Files that are read whole up to the limit, and by their first 32 bytes beyond it.
use Rattle.std.specs.Prelude.{◌≡◌, ℕ, List, take}
use Rattle.tool_base.specs.Disks.{DeviceFails}
use Rattle.tool_base.specs.Ending as ending
use Rattle.tool_base.specs.Ending.{Ending}
use Rattle.tool_base.specs.Loads.{ReadsAs}
use Rattle.tool_base.specs.World.{StoreRun, Bytes, Failed, TooLong, IsRead}
use Rattle.tool_base.specs.declared.contents.Content.{Content}
use Rattle.tool_base.specs.declared.contents.Content.TheVariants.{Whole, Long}

-- the file begins with this head
abbrev pub HasHead : List ℕ → List ℕ → Type 0
HasHead head file = take 32 file ≡ head

-- what was found of the file of this name: all its bytes, or the head and the length of one that is too long
abbrev pub IsFound : StoreRun → List ℕ → Content → Type 0
IsFound store name (Whole bytes) = IsRead store name (Bytes bytes.items)
IsFound store name (Long head got) = IsRead store name (TooLong got) × ReadsAs store name (HasHead head)

-- the end if nothing was found of the file of this name
pub data FailsToFind (store : StoreRun) (name : List ℕ) : Ending → Type 0 where
  failed : IsRead store name Failed → FailsToFind store name ending.StoreFailed
  device : DeviceFails store → FailsToFind store name ending.DeviceFailed
  no_memory : FailsToFind store name ending.NoMemory
