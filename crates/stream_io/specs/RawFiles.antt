-- What calls of raw files leave as it was, and what their writes answer and leave.
use Rattle.std.specs.Prelude.{◌≡◌, ◌↔◌, ◌+◌, ◌<◌, ◌≤◌, ℕ, Bool, List, Result, IsTrue, IfOk, OnErr, length, take}
use Rattle.disk_trait.specs.Images.{written, Torn}
use Rattle.disk_trait.specs.declared.disk.DiskFault.{DiskFault}

-- whether a file may have grown since its last whole sync, and whether a sync may have failed, are as they were
pub record SameSyncs {F : Type 0} (has_grown has_failed : F → Bool) (old new : F) : Type 0 where
  pub grown : has_grown new ≡ has_grown old
  pub failed : has_failed new ≡ has_failed old

-- nothing was written and nothing was synced
pub record Untouched {F : Type 0} (is_told is_honest : F → Bool) (reads_of : F → List ℕ) (leaves : F → List ℕ → Type 0)
    (has_grown has_failed : F → Bool) (old new : F) : Type 0 where
  pub same : IsTrue (is_told old) → reads_of new ≡ reads_of old
  pub images : IsTrue (is_honest old) → (image : List ℕ) → leaves new image ↔ leaves old image
  pub syncs : IsTrue (is_told old) → SameSyncs has_grown has_failed old new

-- How many bytes of a piece a write has written, at least one if there is one, and what a read gives then. What that is
-- after a write that begins past the end is not said.
pub record HasWrittenAt {F : Type 0} (is_told : F → Bool) (reads_of : F → List ℕ) (at : ℕ) (piece : List ℕ)
    (result : Result ℕ DiskFault) (old new : F) : Type 0 where
  pub size : IfOk result (λ n. n ≤ length piece)
  pub some : IfOk result (λ n. 0 < length piece → 0 < n)
  pub bytes : IsTrue (is_told old) → at ≤ length (reads_of old)
      → IfOk result (λ n. reads_of new ≡ written (reads_of old) at (take n piece))
  pub torn : IsTrue (is_told old) → at ≤ length (reads_of old)
      → OnErr result (Torn at (length piece) (reads_of old) (reads_of new))

-- no sync was made, and a write that ends within the file has not made it longer
pub record SyncsAfterWrite {F : Type 0} (is_told : F → Bool) (reads_of : F → List ℕ) (has_grown has_failed : F → Bool)
    (at size : ℕ) (old new : F) : Type 0 where
  pub grown : IsTrue (is_told old) → at + size ≤ length (reads_of old) → has_grown new ≡ has_grown old
  pub failed : IsTrue (is_told old) → has_failed new ≡ has_failed old
