-- A disk of a store while a command works on it, and once it is back.
use Rattle.std.specs.Prelude.{◌≡◌, ◌⊎◌, ℕ, false, List, None, IsTrue}
use Rattle.std.specs.Str.{bytes_eq}
use Rattle.disk_trait.specs.Faults.{Rose}
use Rattle.stream_io.specs.Store.{OthersLeave, PagesState, SameLoans, StoreOnward, StoreState, added, handed}
use Rattle.tool_base.specs.Touched.{DeviceRose}
use Rattle.tool_base.specs.World.{StoreRun}

-- The disk of this name is out, made or taken, and was not out before. All other names are as they were.
pub record IsOut (old : StoreState) (name : List ℕ) (disk : PagesState) (new : StoreState) : Type 0 where
  pub onward : StoreOnward old new
  pub told : IsTrue old.told → IsTrue disk.told
  pub steady : IsTrue old.steady → IsTrue disk.steady
  pub kind : IsTrue old.told → old.disks name ≡ handed disk
  pub was_in : IsTrue old.told → old.out name ≡ None
  pub file : IsTrue old.told → (other : List ℕ) → bytes_eq other name ≡ false → new.file other ≡ old.file other
  pub out : IsTrue old.told → (other : List ℕ) → new.out other ≡ added old.out name (handed disk) other
  pub others : IsTrue old.told → OthersLeave name old new
  pub loans : SameLoans old new

-- A call of a disk failed: its count of faults rose, and the store is not steady or does not tell its content.
pub record DeviceFails (store : StoreRun) : Type 0 where
  pub rose : DeviceRose store
  pub unsteady : IsTrue store.before.told → IsTrue store.before.steady → ⊥

-- the name is read as before, and a crash leaves nothing of it that it did not leave before
pub record Stays (store : StoreRun) (name : List ℕ) : Type 0 where
  pub file : IsTrue store.before.told → store.after.file name ≡ store.before.file name
  pub leaves : IsTrue store.before.told → IsTrue (store.before.disks name).honest → (image : List ℕ)
      → store.after.leaves name image → store.before.leaves name image

-- A call of a disk that is out, or of one that came back, failed: one of the counts rose, that of the disk or that of
-- the store, and the store is not steady or does not tell its content.
pub record OneFails (old new : StoreState) (before now : ℕ) : Type 0 where
  pub rose : Rose old.disk_count new.disk_count ⊎ Rose before now
  pub unsteady : IsTrue old.told → IsTrue old.steady → ⊥
