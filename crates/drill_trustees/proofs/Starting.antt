-- A journal that was just made.
use Rattle.std.proofs.Common.{◌≡◌, ◌<◌, ℕ, List, ap}
use Rattle.opening_journal.specs.Entries.{IsFree, state_in_file, state_of_slot}
use Rattle.opening_journal.specs.Loading.{IsJournalFile}
use Rattle.slot_file.specs.Copies.{is_damaged}
use Rattle.slot_file.specs.Fresh.{IsNew}
use Rattle.share_files.specs.declared.share.Share.{Share}
use Rattle.trustee_core.specs.Trustee.{journal_header}

module _ (share : Share) (count : ℕ) (file : List ℕ) (new : IsNew (journal_header share) count file) where
  pub new-file : IsJournalFile (journal_header share) count file
  new-file = record { opens = new.1.opens; whole = λ leaf within. ap is_damaged (new.1.free leaf within) }

  pub new-free : (n q : ℕ) → q < count → state_in_file n file q ≡ IsFree
  new-free n q within = ap (state_of_slot n) (new.1.free q within)
