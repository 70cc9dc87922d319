-- A signature that is written under a new name.
use Rattle.std.specs.Prelude.{◌≡◌, ℕ, List, [], ◌∷◌, Some, IsTrue}
use Rattle.disk_trait.specs.Images.{Only}
use Rattle.stream_io.specs.declared.store.Readers.TheVariants.{Anyone}
use Rattle.tool_base.specs.Ending as ending
use Rattle.tool_base.specs.Ending.{Ending}
use Rattle.tool_base.specs.Outputs.{IsLeft, IsNotWritten, Output}
use Rattle.tool_base.specs.World.{StoreRun}

-- the name stands for just these bytes, all stable, and anyone may read them
pub record IsWritten (store : StoreRun) (name bytes : List ℕ) : Type 0 where
  pub file : IsTrue store.before.told → store.after.file name ≡ Some bytes
  pub stable : IsTrue store.before.told → Only bytes (store.after.leaves name)
  pub readers : IsTrue store.before.told → store.after.readers name ≡ Some Anyone

-- internal: a file to be written, for anyone to read
abbrev pub one_output : List ℕ → List ℕ → Output
one_output name bytes = record { name = name; bytes = bytes; readers = Anyone }

-- internal: how the writing of a signature with this leaf ends
pub data WriteEnds (store : StoreRun) (name : List ℕ) (leaf : ℕ) (bytes : List ℕ) : Ending → Type 0 where
  written : IsLeft store (one_output name bytes ∷ []) → WriteEnds store name leaf bytes (ending.Signed leaf)
  not_written : (end : Ending) → IsLeft store [] → IsNotWritten store [] name end
      → WriteEnds store name leaf bytes end
