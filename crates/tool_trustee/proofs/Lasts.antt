-- What a journal leaves, and the first exits of the command.
use Rattle.std.proofs.Common.{◌≡◌, ◌↔◌, ◌⊎◌, ◌^◌, ℕ, List, [], Some, None, IsTrue, inl, inr, refl, sym, subst}
use Rattle.std.proofs.lemmas.List.Elements.{All-nil}
use Rattle.disk_trait.specs.Faults.{Rose}
use Rattle.disk_trait.specs.declared.disk.Pages as pages
use Rattle.disk_trait.specs.declared.faults.Faults as faults
use Rattle.lms_bytes.specs.declared.params.Params.{Params}
use Rattle.opening_journal.specs.Journal.{Holds, Keeps, disk_of, header_of, params_of, state_of}
use Rattle.opening_journal.specs.Entries.{HasEntries, StandsFor}
use Rattle.opening_journal.specs.Loading.{IsJournalFile}
use Rattle.opening_journal.specs.declared.journal.Journal.{Journal}
use Rattle.share_files.specs.declared.share.Share.{Share}
use Rattle.stream_io.specs.Net.{NetState}
use Rattle.stream_io.specs.Store.{StoreState}
use Rattle.stream_io.specs.declared.call_fault.CallFault.{CallFault}
use Rattle.stream_io.specs.declared.call_fault.CallFault.TheVariants as call
use Rattle.tool_base.specs.Ending as ending
use Rattle.tool_base.specs.Ending.{Ending}
use Rattle.tool_base.specs.Grammars.{FailsGrammar, IsShareRead, share_fault_number}
use Rattle.tool_base.specs.World.{IsUnchanged, Outside, TimeState, from_to}
use Rattle.tool_base.specs.Disks.{Stays}
use Rattle.tool_base.proofs.Outs.{keeps_unchanged}
use Rattle.tool_trustee.specs.Journals.{LeavesJournal, StandsAs}
use Rattle.tool_base.proofs.Nets.{net_none}
use Rattle.tool_base.proofs.Heard.{heard_none}
use Rattle.tool_trustee.specs.Services.{end_of_call}
use Rattle.tool_trustee.specs.Trustee.{TrusteeEnds, TrusteeRun, no_journal, no_memory, no_share}
use Rattle.tool_words.specs.Words.{TrusteeWords}
use Rattle.trustee_core.specs.Trustee.{journal_header}

module _ {D : Type 0} {p : pages.Ghosts D} {f : faults.Ghosts D} (share : Share) (journal : Journal D p f) (header_is : header_of journal ≡ journal_header share)
    (params_is : params_of journal ≡ share.params) (holds : Holds journal) where
  stands_as : (file : List ℕ) → Keeps journal file → StandsAs share (state_of journal) file
  stands_as file keeps = record {
    loads = subst (λ h. IsJournalFile h (2 ^ share.params.h) file) header_is (subst (λ (q : Params). IsJournalFile (header_of journal) (2 ^ q.h) file) params_is keeps.loads);
    stands = subst (λ (q : Params). StandsFor q.n (2 ^ q.h) file (state_of journal)) params_is keeps.stands;
  }

  -- a journal with no entry in doubt whose file this is has its entries there
  pub has_entries : (file : List ℕ) → (state_of journal).doubt ≡ None → Keeps journal file → HasEntries share.params.n (2 ^ share.params.h) file (state_of journal).entries
  has_entries file none keeps = elim (stands_as file keeps).stands [
    | inl has ↦ has
    | inr made ↦ absurd (let some = made.1 in cc)
  ]

  pub leaves_journal : (a e : StoreState) (name : List ℕ) (disk : D) → disk ≡ disk_of journal → (IsTrue a.told → IsTrue (p.told disk))
      → (IsTrue a.told → IsTrue (a.disks name).honest → IsTrue (p.honest disk)) → (IsTrue a.told → e.file name ≡ Some (p.reads disk))
      → (IsTrue a.told → (image : List ℕ) → e.leaves name image ↔ p.may_leave disk image) → LeavesJournal (from_to a e) name share (state_of journal)
  leaves_journal a e name disk is tells honest file leaves = record {
    file = p.reads disk;
    is_read = file;
    stands = λ told. stands_as (p.reads disk) (subst (λ d. Keeps journal (p.reads d)) (sym is) (holds.reads (subst (λ d. IsTrue (p.told d)) is (tells told))));
    images = λ told is_honest image left.
        stands_as image (holds.images (subst (λ d. IsTrue (p.told d)) is (tells told)) (subst (λ d. IsTrue (p.honest d)) is (honest told is_honest)) image
        (subst (λ d. p.may_leave d image) is ((leaves told image).0 left)));
    legal = holds.legal;
  }

module _ (words : TrusteeWords) (a c : StoreState) (net : NetState) (time : TimeState) (unchanged : IsUnchanged a c) where
  abbrev before : Outside
  before = record { store = a; net = net; time = time }

  abbrev after : Outside
  after = record { store = c; net = net; time = time }

  run_unchanged : (end : Ending) → TrusteeEnds words before after end [] → TrusteeRun words before after end
  run_unchanged end ends = record { touched = []; ends = ends; keeps = keeps_unchanged [] a c unchanged; net = net_none net; time = refl }

  pub run_unread : (end : Ending) → (end ≡ ending.NoMemory) ⊎ FailsGrammar share_fault_number (from_to a c) words.share end → TrusteeRun words before after end
  run_unread end (inl is) = run_unchanged end (rw is (no_memory [] (heard_none words.place net net refl) (All-nil (Stays (from_to a c)))))
  run_unread end (inr fails) = run_unchanged end (no_share end fails (heard_none words.place net net refl))

  pub run_untaken : (share : Share) (fault : CallFault) (end : Ending) → end ≡ end_of_call fault → IsShareRead (from_to a c) words.share share
      → (fault ≡ call.Failed → Rose a.count c.count) → (fault ≡ call.Failed → IsTrue a.told → IsTrue a.steady → a.file words.journal ≡ None)
      → TrusteeRun words before after end
  run_untaken share call.Failed end is read rose gone = run_unchanged end (rw is (no_journal share read (rose refl, gone refl) (heard_none words.place net net refl)))
  run_untaken share call.NoMemory end is read rose gone = run_unchanged end (rw is (no_memory [] (heard_none words.place net net refl) (All-nil (Stays (from_to a c)))))
