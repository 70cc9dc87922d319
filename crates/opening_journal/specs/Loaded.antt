-- What loading a journal gives.
use Rattle.std.specs.Prelude.{◌≡◌, ◌^◌, IsTrue}
use Rattle.disk_trait.specs.declared.disk.Pages as pages
use Rattle.disk_trait.specs.declared.faults.Faults as faults
use Rattle.lms_bytes.specs.declared.params.Params.{Params}
use Rattle.opening_journal.specs.Journal.{disk_of, faults_of, header_of, params_of, state_of}
use Rattle.opening_journal.specs.Loading.{IsJournalFile, entries_of_file}
use Rattle.opening_journal.specs.Opening.{settled_with}
use Rattle.opening_journal.specs.declared.journal.Journal.{Journal}
use Rattle.slot_file.specs.Disks.{Unwritten}
use Rattle.slot_file.specs.declared.header.Header.{Header}

-- a journal with the entries of a disk's file, and none in doubt
pub record IsLoaded {D : Type 0} (p : pages.Ghosts D) (f : faults.Ghosts D) (header : Header) (params : Params)
    (disk : D) (journal : Journal D p f) : Type 0 where
  pub file : IsTrue (p.told disk) → IsJournalFile header (2 ^ params.h) (p.reads disk)
  pub entries : IsTrue (p.told disk)
      → state_of journal ≡ settled_with (entries_of_file params.n (2 ^ params.h) (p.reads disk))
  pub named : header_of journal ≡ header
  pub sized : params_of journal ≡ params
  pub unwritten : Unwritten p f disk (disk_of journal)
  pub faults : faults_of journal ≡ f.count disk
