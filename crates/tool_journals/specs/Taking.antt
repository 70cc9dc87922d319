-- A disk that a command takes out of a store.
use Rattle.std.specs.Prelude.{◌≡◌, ℕ, List, None, IsTrue}
use Rattle.disk_trait.specs.Faults.{Rose}
use Rattle.tool_base.specs.Ending as ending
use Rattle.tool_base.specs.Ending.{Ending}
use Rattle.tool_base.specs.World.{StoreRun}

-- the end if the disk of this name was not handed out
pub data IsNotTaken (store : StoreRun) (name : List ℕ) : Ending → Type 0 where
  take_failed : Rose store.before.count store.after.count
      → (IsTrue store.before.told → IsTrue store.before.steady → store.before.file name ≡ None)
      → IsNotTaken store name ending.StoreFailed
  no_memory_to_take : IsNotTaken store name ending.NoMemory
