-- A journal as contracts see it, and what always holds of it.
use Rattle.std.specs.Prelude.{◌≡◌, ◌≢◌, ◌^◌, ℕ, List, None, Result, Err, IsTrue}
use Rattle.disk_trait.specs.declared.disk.Pages as pages
use Rattle.disk_trait.specs.declared.faults.Faults as faults
use Rattle.lms_bytes.specs.declared.params.Params.{Params}
use Rattle.opening_journal.specs.Entries.{IsLegalList, JournalState, StandsFor}
use Rattle.opening_journal.specs.Loading.{IsJournalFile}
use Rattle.opening_journal.specs.Opening.{SettlesTo}
use Rattle.opening_journal.specs.declared.entry.Entry.{Entry}
use Rattle.opening_journal.specs.declared.faults.Entered.{Entered}
use Rattle.opening_journal.specs.declared.faults.JournalFault.{JournalFault}
use Rattle.opening_journal.specs.declared.faults.JournalFault.TheVariants.{Damaged, Device}
use Rattle.opening_journal.specs.declared.journal.Journal.{Journal}
use Rattle.slot_file.specs.Cache.{disk_of as cache_disk, header_of as cache_header}
use Rattle.disk_trait.specs.Faults.{RisesAt}
use Rattle.disk_trait.specs.SameDisk.{SameDisk}
use Rattle.slot_file.specs.declared.header.Header.{Header}

module _ {D : Type 0} {p : pages.Ghosts D} {f : faults.Ghosts D} where
  abbrev pub disk_of : Journal D p f → D
  disk_of journal = cache_disk journal.slots

  abbrev pub header_of : Journal D p f → Header
  header_of journal = cache_header journal.slots

  abbrev pub params_of : Journal D p f → Params
  params_of journal = journal.params

  abbrev pub state_of : Journal D p f → JournalState
  state_of journal = record { entries = journal.entries.items; doubt = journal.doubt }

  abbrev pub faults_of : Journal D p f → ℕ
  faults_of journal = f.count (disk_of journal)

  abbrev pub IsTold : Journal D p f → Type 0
  IsTold journal = IsTrue (p.told (disk_of journal))

  abbrev pub IsSteady : Journal D p f → Type 0
  IsSteady journal = IsTrue (f.steady (disk_of journal))

  -- a file of the journal's header that loads, and that stands for the journal
  pub record Keeps (journal : Journal D p f) (file : List ℕ) : Type 0 where
    pub loads : IsJournalFile (header_of journal) (2 ^ (params_of journal).h) file
    pub stands : StandsFor (params_of journal).n (2 ^ (params_of journal).h) file (state_of journal)

  -- What holds of every journal: what a read gives and each image that a crash may leave is a file that loads and
  -- stands for it, an entry is in doubt only if a call of the disk has failed, and each entry may follow those before
  -- it, the one in doubt too.
  pub record Holds (journal : Journal D p f) : Type 0 where
    pub reads : IsTold journal → Keeps journal (p.reads (disk_of journal))
    pub images : IsTold journal → IsTrue (p.honest (disk_of journal))
        → (image : List ℕ) → p.may_leave (disk_of journal) image → Keeps journal image
    pub cause : faults_of journal ≡ 0 → (state_of journal).doubt ≡ None
    pub legal : (entries : List Entry) → SettlesTo (state_of journal) entries → IsLegalList entries

  -- what no call changes
  pub record Stays (old new : Journal D p f) : Type 0 where
    pub params : params_of new ≡ params_of old
    pub header : header_of new ≡ header_of old
    pub disk : SameDisk p f (disk_of old) (disk_of new)

  -- What binding and opening say about the disk: no slot is found damaged if the disk tells its content, a steady disk
  -- that tells it does not fail, and the count rises if the answer is Device and not otherwise.
  pub record Enters (old new : Journal D p f) (result : Result Entered JournalFault) : Type 0 where
    pub told : IsTold old → (leaf a b : ℕ) → result ≢ Err (Damaged leaf a b)
    pub succeeds : IsSteady old → IsTold old → result ≢ Err Device
    pub cause : RisesAt (faults_of old) (faults_of new) result (Err Device)
    pub stays : Stays old new
