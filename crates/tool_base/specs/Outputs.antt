-- The files that a command writes, each under a new name.
use Rattle.std.specs.Prelude.{◌≡◌, ◌≢◌, ◌↔◌, ◌⊎◌, ⊤, ℕ, false, List, [], ◌∷◌, ◌++◌, Option, Some, IsTrue, All}
use Rattle.std.specs.Str.{bytes_eq}
use Rattle.disk_trait.specs.Faults.{Rose}
use Rattle.disk_trait.specs.Images.{Only}
use Rattle.stream_io.specs.Store.{StoreState, added, has_name}
use Rattle.stream_io.specs.declared.store.NewFault.{NewFault}
use Rattle.stream_io.specs.declared.store.NewFault.TheVariants.{Exists, Failed, NoMemory}
use Rattle.stream_io.specs.declared.store.Readers.{Readers}
use Rattle.tool_base.specs.Ending as ending
use Rattle.tool_base.specs.Ending.{Ending}
use Rattle.tool_base.specs.World.{StoreRun}

-- a file to be written, and who may read it then
pub record Output : Type 0 where
  pub name : List ℕ
  pub bytes : List ℕ
  pub readers : Readers

-- what each name is read with once these files are written, in this order
unfoldable pub all_added : (List ℕ → Option (List ℕ)) → List Output → List ℕ → Option (List ℕ)
all_added file [] = file
all_added file (output ∷ outputs) = all_added (added file output.name output.bytes) outputs

-- a name is none of these outputs'
abbrev pub IsOther : List Output → List ℕ → Type 0
IsOther outputs name = All (λ output. bytes_eq name output.name ≡ false) outputs

-- a crash now leaves these files whole
abbrev pub AreStable : StoreState → List Output → Type 0
AreStable store outputs = All (λ output. Only output.bytes (store.leaves output.name)) outputs

-- these files are read by those they are for
abbrev pub AreReadBy : StoreState → List Output → Type 0
AreReadBy store outputs = All (λ output. store.readers output.name ≡ Some output.readers) outputs

-- The store has what it had and these files, which are all stable and read by those they are for. A crash may leave of
-- every other name what it might have left before.
pub record IsLeft (store : StoreRun) (written : List Output) : Type 0 where
  pub file : IsTrue store.before.told → (name : List ℕ)
      → store.after.file name ≡ all_added store.before.file written name
  pub stable : IsTrue store.before.told → AreStable store.after written
  pub readers : IsTrue store.before.told → AreReadBy store.after written
  pub others : IsTrue store.before.told → (name image : List ℕ) → IsOther written name
      → store.after.leaves name image ↔ store.before.leaves name image

-- the name is not in the store
abbrev pub IsNew : StoreRun → List ℕ → Type 0
IsNew store name = IsTrue store.before.told → has_name store.before name ≡ false

-- a call of the store failed: the count of faults rose, and the store is not steady
pub record CallFailed (store : StoreRun) : Type 0 where
  pub rose : Rose store.before.count store.after.count
  pub unsteady : IsTrue store.before.steady → ⊥

-- the end if a file or a disk was not made under a name
abbrev pub IsEndOfNew : List ℕ → NewFault → Ending → Type 0
IsEndOfNew name Exists end = (end ≡ ending.NoMemory) ⊎ (end ≡ ending.Exists name)
IsEndOfNew name Failed end = end ≡ ending.StoreFailed
IsEndOfNew name NoMemory end = end ≡ ending.NoMemory

-- the end if this name was not found new
pub data IsNotNew (store : StoreRun) (name : List ℕ) : Ending → Type 0 where
  test_failed : CallFailed store → IsNotNew store name ending.StoreFailed
  is_there : (IsTrue store.before.told → IsTrue (has_name store.before name)) → IsNotNew store name (ending.Exists name)
  no_memory_to_name : IsNotNew store name ending.NoMemory

-- the end if one of these names was not found new, the first such
pub record FirstNotNew (store : StoreRun) (names : List (List ℕ)) (end : Ending) : Type 0 where
  pub before : List (List ℕ)
  pub name : List ℕ
  pub after : List (List ℕ)
  pub is : names ≡ before ++ (name ∷ after)
  pub new : All (IsNew store) before
  pub cause : IsNotNew store name end

-- no two of these names are the same
abbrev pub AreDifferent : List (List ℕ) → Type 0
AreDifferent [] = ⊤
AreDifferent (name ∷ names) = All (λ other. name ≢ other) names × AreDifferent names

-- The end if a file could not be written under this name after those that were written. A name that was new when it was
-- tested is there now only in a store that does not tell its content.
pub data IsNotWritten (store : StoreRun) (written : List Output) (name : List ℕ) : Ending → Type 0 where
  write_failed : CallFailed store → IsNotWritten store written name ending.StoreFailed
  was_there : (IsTrue store.before.told → ⊥) → IsNotWritten store written name (ending.Exists name)
  no_memory_to_write : IsNotWritten store written name ending.NoMemory

-- the end if these of the files were written, and the next one was not
pub record StopsAfter (store : StoreRun) (outputs written : List Output) (end : Ending) : Type 0 where
  pub output : Output
  pub rest : List Output
  pub is : outputs ≡ written ++ (output ∷ rest)
  pub cause : IsNotWritten store written output.name end

-- An end of a command that wrote these files: one that the command's rules allow, and the store has these files.
pub record EndsWith (ends : Ending → List Output → Type 0) (store : StoreRun) (end : Ending) : Type 0 where
  pub written : List Output
  pub cause : ends end written
  pub left : IsLeft store written
