-- The rules of a command as its steps, one after another: what a step gives is what the rest speaks of. A rule is of an
-- end and of the outputs that were written.
use Rattle.std.specs.Prelude.{ℕ, List, [], All}
use Rattle.tool_base.specs.Ending.{Ending}
use Rattle.tool_base.specs.Outputs.{FirstNotNew, IsNew, Output, StopsAfter}
use Rattle.tool_base.specs.Reads.{FailsToRead}
use Rattle.tool_base.specs.World.{StoreRun, Bytes, IsRead}

-- a step that refuses, and that is the end, or that gives a value of this kind to the rest
pub data StepThen {A : Type 0} (Fails : Ending → Type 0) (Gives : A → Type 0)
    (Rest : A → Ending → List Output → Type 0) : Ending → List Output → Type 0 where
  refused : (end : Ending) → Fails end → StepThen Fails Gives Rest end []
  given : (value : A) (end : Ending) (written : List Output) → Gives value → Rest value end written
      → StepThen Fails Gives Rest end written

-- a file is read whole
abbrev pub TextThen : StoreRun → List ℕ → (List ℕ → Ending → List Output → Type 0) → Ending → List Output → Type 0
TextThen store name = StepThen (FailsToRead store name) (λ text. IsRead store name (Bytes text))

-- names are tested: the first one that is not found new is the end
pub data NewThen (store : StoreRun) (names : List (List ℕ)) (Rest : Ending → List Output → Type 0)
    : Ending → List Output → Type 0 where
  not_new : (end : Ending) → FirstNotNew store names end → NewThen store names Rest end []
  all_new : (end : Ending) (written : List Output) → All (IsNew store) names → Rest end written
      → NewThen store names Rest end written

-- Outputs are written, one after another, and then this is the end; or the first one that could not be written is, with
-- those before it.
pub data Writes (store : StoreRun) (outputs : List Output) (done : Ending) : Ending → List Output → Type 0 where
  stopped : (end : Ending) (written : List Output) → StopsAfter store outputs written end
      → Writes store outputs done end written
  all_written : Writes store outputs done done outputs

-- a verdict of which this holds is told
pub data Tells {V : Type 0} (tell : V → Ending) (Holds : V → Type 0) : Ending → List Output → Type 0 where
  verdict_told : (verdict : V) → Holds verdict → Tells tell Holds (tell verdict) []

-- internal: the files of two names are these bytes
pub record AreRead (store : StoreRun) (one two a b : List ℕ) : Type 0 where
  pub first : IsRead store one (Bytes a)
  pub second : IsRead store two (Bytes b)

-- internal: the end if one of two files could not be read, the first one first
pub data FailsToReadTwo (store : StoreRun) (one two : List ℕ) : Ending → Type 0 where
  first_fails : (end : Ending) → FailsToRead store one end → FailsToReadTwo store one two end
  second_fails : (text : List ℕ) (end : Ending) → IsRead store one (Bytes text) → FailsToRead store two end
      → FailsToReadTwo store one two end
