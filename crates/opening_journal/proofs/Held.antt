-- What holds of every journal.
use Rattle.std.proofs.Common.{ℕ, List, inl, inr, sym, subst}
use Rattle.disk_trait.specs.declared.disk.Pages as pages
use Rattle.disk_trait.specs.declared.faults.Faults as faults
use Rattle.opening_journal.specs.Entries.{Follows, IsLegalList, StandsFor}
use Rattle.slot_file.proofs.Logs.{legal-more}
use Rattle.opening_journal.specs.Journal.{Holds, Keeps, header_of, state_of}
use Rattle.opening_journal.specs.Loading.{IsJournalFile}
use Rattle.opening_journal.specs.declared.journal.Journal.{Journal}
use Rattle.opening_journal.proofs.Holding.{doubt-none, stands}
use Rattle.slot_file.specs.State.{StandsFor as CacheStandsFor}
use Rattle.slot_file.specs.Cache.{state_of as cache_state}
use Rattle.slot_file.proofs.Held.{holds as cache_holds}
use Rattle.slot_file.proofs.Logs.{stands-whole}

module _ {D : Type 0} {p : pages.Ghosts D} {f : faults.Ghosts D} (journal : Journal D p f) where
  keeps : (file : List ℕ) → CacheStandsFor (header_of journal) (cache_state journal.slots) file → Keeps journal file
  keeps file stands_for =
      let cache = cache_state journal.slots in
      let header = header_of journal in
      record {
        loads = subst (λ (count : ℕ). IsJournalFile header count file) journal.count (stands-whole 2 header cache file journal.version stands_for);
        stands = subst (λ (count : ℕ). StandsFor journal.params.n count file (state_of journal)) journal.count
            (stands journal.params.n header cache journal.entries.items file journal.version journal.doubt (cache_holds journal.slots).within journal.held stands_for);
      }

  pub holds : Holds journal
  holds =
      let cache = cache_holds journal.slots in
      record {
        reads = λ told. keeps _ (cache.reads told);
        images = λ told honest image leaves. keeps image (cache.images told honest image leaves);
        cause = λ none. doubt-none journal.params.n (cache_state journal.slots) journal.entries.items journal.doubt journal.held (cache.cause none);
        legal = λ entries settles. elim settles [
          | inl as_before ↦ subst IsLegalList (sym as_before) journal.held.legal
          | inr made ↦ subst IsLegalList (sym made.2) (legal-more Follows journal.entries.items made.0 journal.held.legal (journal.held.adds made.0 made.1))
        ];
      }
