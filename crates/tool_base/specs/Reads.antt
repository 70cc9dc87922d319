-- What a file that could not be read leads to.
use Rattle.std.specs.Prelude.{ℕ, List}
use Rattle.tool_base.specs.Ending as ending
use Rattle.tool_base.specs.Ending.{Ending}
use Rattle.tool_base.specs.World.{StoreRun, Failed, TooLong, IsReadUpTo, file_limit}

-- the end if the file of this name could not be read up to a limit
pub data FailsUpTo (limit : ℕ) (store : StoreRun) (name : List ℕ) : Ending → Type 0 where
  failed : IsReadUpTo limit store name Failed → FailsUpTo limit store name ending.StoreFailed
  too_long : (got : ℕ) → IsReadUpTo limit store name (TooLong got) → FailsUpTo limit store name (ending.TooLong got)
  no_memory : FailsUpTo limit store name ending.NoMemory

abbrev pub FailsToRead : StoreRun → List ℕ → Ending → Type 0
FailsToRead = FailsUpTo file_limit
