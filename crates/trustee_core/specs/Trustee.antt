-- A trustee as contracts see it.
use Rattle.std.specs.Prelude.{◌≡◌, ◌≢◌, ℕ, List, Result, Err}
use Rattle.disk_trait.specs.declared.disk.Pages as pages
use Rattle.disk_trait.specs.declared.faults.Faults as faults
use Rattle.opening_journal.specs.Journal.{IsSteady, IsTold, Stays, faults_of}
use Rattle.opening_journal.specs.declared.faults.JournalFault.TheVariants as journal
use Rattle.opening_journal.specs.declared.journal.Journal.{Journal}
use Rattle.share_files.specs.declared.share.Share.{Share}
use Rattle.disk_trait.specs.Faults.{RisesAt}
use Rattle.slot_file.specs.declared.header.Header.{Header}
use Rattle.trustee_core.specs.declared.note.Note.{Note}
use Rattle.trustee_core.specs.declared.refusal.Refusal.{Refusal}
use Rattle.trustee_core.specs.declared.refusal.Refusal.TheVariants as refusal
use Rattle.trustee_core.specs.declared.trustee.Trustee.{Trustee}

-- this project's profile: the header of a trustee's journal
abbrev pub journal_header : Share → Header
journal_header share = record {
  version = 2;
  number = share.member;
  lms = share.params.lms;
  ots = share.params.ots;
  id = share.id;
}

module _ {D : Type 0} {p : pages.Ghosts D} {f : faults.Ghosts D} where
  abbrev pub share_of : Trustee D p f → Share
  share_of trustee = trustee.share

  abbrev pub journal_of : Trustee D p f → Journal D p f
  journal_of trustee = trustee.journal

  -- what it noted, from its start on
  abbrev pub notes_of : Trustee D p f → List Note
  notes_of trustee = trustee.log.notes

  -- What a decision says of the disk: no slot is found damaged if the disk tells its content, a steady disk that tells
  -- it does not fail, and the count rises if the answer is Device and not otherwise.
  pub record Decided {T : Type 0} (old new : Trustee D p f) (result : Result T Refusal) : Type 0 where
    pub told : IsTold (journal_of old) → (leaf a b : ℕ) → result ≢ Err (refusal.Journal (journal.Damaged leaf a b))
    pub succeeds : IsSteady (journal_of old) → IsTold (journal_of old) → result ≢ Err (refusal.Journal journal.Device)
    pub cause : RisesAt (faults_of (journal_of old)) (faults_of (journal_of new)) result
        (Err (refusal.Journal journal.Device))
    pub share : share_of new ≡ share_of old
    pub stays : Stays (journal_of old) (journal_of new)
