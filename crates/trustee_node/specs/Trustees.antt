-- A trustee in one state.
use Rattle.std.specs.Prelude.{ℕ, List, Option}
use Rattle.disk_trait.specs.declared.disk.Pages as pages
use Rattle.disk_trait.specs.declared.faults.Faults as faults
use Rattle.opening_journal.specs.Journal.{disk_of, faults_of, state_of}
use Rattle.opening_journal.specs.declared.entry.Entry.{Entry}
use Rattle.trustee_core.specs.Trustee.{journal_of, notes_of, share_of}
use Rattle.trustee_core.specs.declared.kept.TrusteeName.{TrusteeName}
use Rattle.trustee_core.specs.declared.note.Note.{Note}
use Rattle.trustee_core.specs.declared.trustee.Trustee.{Trustee}

-- the entries of its journal, the one in doubt, its notes, the count of faults of its disk, and its share and what
-- never changes about its disk
pub record TrusteeState : Type 0 where
  pub entries : List Entry
  pub doubt : Option Entry
  pub notes : List Note
  pub faults : ℕ
  pub name : TrusteeName

module _ {D : Type 0} {p : pages.Ghosts D} {f : faults.Ghosts D} where
  -- its share and what never changes about its disk
  abbrev pub name_of : Trustee D p f → TrusteeName
  name_of trustee = record {
    share = share_of trustee;
    told = p.told (disk_of (journal_of trustee));
    honest = p.honest (disk_of (journal_of trustee));
    steady = f.steady (disk_of (journal_of trustee));
  }

  -- its state
  abbrev pub trustee_state : Trustee D p f → TrusteeState
  trustee_state trustee = record {
    entries = (state_of (journal_of trustee)).entries;
    doubt = (state_of (journal_of trustee)).doubt;
    notes = notes_of trustee;
    faults = faults_of (journal_of trustee);
    name = name_of trustee;
  }
