-- What always holds of a trustee's notes.
use Rattle.std.proofs.Common.{◌≡◌, Some}
use Rattle.std.specs.Prelude.{Contains}
use Rattle.disk_trait.specs.declared.disk.Pages as pages
use Rattle.disk_trait.specs.declared.faults.Faults as faults
use Rattle.opening_journal.specs.Journal.{state_of}
use Rattle.opening_journal.specs.declared.entry.Entry.{Entry}
use Rattle.trustee_core.specs.Notes.{entries_in}
use Rattle.trustee_core.specs.Trustee.{journal_of, notes_of}
use Rattle.trustee_core.specs.declared.note.Note.TheVariants.{Doubted}
use Rattle.trustee_core.specs.declared.trustee.Trustee.{Trustee}
use Rattle.trustee_core.proofs.NoteLists.{contained}

module _ {D : Type 0} {p : pages.Ghosts D} {f : faults.Ghosts D} where
  pub entries-held : (trustee : Trustee D p f) → entries_in (notes_of trustee) ≡ (state_of (journal_of trustee)).entries
  entries-held trustee = trustee.made

  pub doubt-held : (trustee : Trustee D p f) (entry : Entry) → (state_of (journal_of trustee)).doubt ≡ Some entry → Contains (notes_of trustee) (Doubted entry)
  doubt-held trustee entry is = contained (notes_of trustee) (Doubted entry) (trustee.doubted entry is)
