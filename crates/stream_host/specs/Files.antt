-- A disk over a raw file.
use Rattle.std.specs.Prelude.{◌≡◌, ◌≢◌, ◌≤◌, ℕ, Bool, List, length, IsTrue, IsFalse}
use Rattle.stream_host.specs.declared.next_sync.NextSync.{NextSync}
use Rattle.stream_host.specs.declared.next_sync.NextSync.TheVariants.{Data, Fails}

-- a file, and what its disk knows of it: the count of faults, a length that the file is no shorter than, and which sync
-- comes next
pub record OnFile (F : Type 0) : Type 0 where
  pub file : F
  pub faults : ℕ
  pub known_length : ℕ
  pub next_sync : NextSync

-- What the disk knows of the file is true of it: it is no shorter than that length, it has not grown if the next sync
-- is one of the data alone, and a failed sync is not forgotten. If the file is steady none has failed.
pub record KnowsFile {F : Type 0} (is_told is_steady : F → Bool) (reads_of : F → List ℕ)
    (has_grown has_failed : F → Bool) (file : F) (known_length : ℕ) (next_sync : NextSync) : Type 0 where
  pub known : IsTrue (is_told file) → known_length ≤ length (reads_of file)
  pub settled : IsTrue (is_told file) → next_sync ≡ Data → IsFalse (has_grown file)
  pub unforgotten : IsTrue (is_told file) → IsTrue (has_failed file) → next_sync ≡ Fails
  pub unbroken : IsTrue (is_steady file) → next_sync ≢ Fails
