-- Services with a book or with none.
use Rattle.std.proofs.Common.{◌≡◌, ℕ, List, [], ◌∷◌, Some, None, IsTrue, refl}
use Rattle.std.proofs.lemmas.List.Elements.{All-cons, All-nil}
use Rattle.disk_trait.specs.Faults.{Rose}
use Rattle.stream_io.specs.Net.{NetState}
use Rattle.stream_io.specs.Store.{StoreState}
use Rattle.stream_io.specs.declared.call_fault.CallFault.{CallFault}
use Rattle.stream_io.specs.declared.call_fault.CallFault.TheVariants as call
use Rattle.tool_base.specs.Heard.{HeardNobody}
use Rattle.tool_base.specs.Ending.{Ending}
use Rattle.tool_base.specs.Touched.{EndsTouching}
use Rattle.tool_base.specs.World.{IsUnchanged, TimeState, from_to}
use Rattle.tool_base.proofs.Runs.{unchanged_none}
use Rattle.tool_base.specs.Loads.{FailsToLoad, ReadsAs}
use Rattle.tool_base.proofs.Outs.{IsBackAs, ends_unchanged, keeps_unchanged}
use Rattle.tool_base.specs.Headers.{book_header}
use Rattle.tool_trustee.specs.Journals.{IsBook, book, no_book}
use Rattle.tool_trustee.specs.Nets.{NetServiceEnds, Service}
use Rattle.tool_trustee.specs.Services.{BookEnds, StaysThere, absent, end_of_call, no_memory, not_loaded, with_book}
use Rattle.tool_words.specs.Words.{TrusteeWords}
use Rattle.stream_io.specs.Store.{PagesState, handed}

-- two disks that are equally told, honest and steady are handed out alike
pub handed_same : (disk now : PagesState) → now.told ≡ disk.told → now.honest ≡ disk.honest → now.steady ≡ disk.steady → handed disk ≡ handed now
handed_same disk now told honest steady = cc

module _ (words : TrusteeWords) (service : Service) (same : Type 0) where
  -- no book: the store is as it was
  pub run_without : (store : StoreState) (net_old net_new : NetState) (time later : TimeState) (end : Ending) → words.book ≡ None
      → NetServiceEnds words service None same net_old net_new time end
      → EndsTouching (BookEnds words service same (record { store = store; net = net_old; time = time }) (record { store = store; net = net_new; time = later })) (from_to store store) end
  run_without store net_old net_new time later end is net = record {
    touched = [];
    cause = with_book None end [] (rw is no_book) (All-nil (StaysThere (from_to store store))) net;
    keeps = keeps_unchanged [] store store (unchanged_none store);
  }

  module _ (a c : StoreState) (net_old net_new : NetState) (time later : TimeState) (name : List ℕ) (is : words.book ≡ Some name) where
    abbrev ends : Ending → List (List ℕ) → Type 0
    ends = BookEnds words service same (record { store = a; net = net_old; time = time }) (record { store = c; net = net_new; time = later })

    -- its disk was not handed out
    pub run_absent : HeardNobody words.place net_old net_new → (fault : CallFault) (end : Ending) → end ≡ end_of_call fault → same → IsUnchanged a c
        → (fault ≡ call.Failed → Rose a.count c.count) → (fault ≡ call.Failed → IsTrue a.told → IsTrue a.steady → a.file name ≡ None)
        → EndsTouching ends (from_to a c) end
    run_absent heard call.Failed end ended kept unchanged rose gone = rw ended (ends_unchanged a c unchanged ends _ (absent name is kept heard (rose refl, gone refl)))
    run_absent heard call.NoMemory end ended kept unchanged rose gone = rw ended (ends_unchanged a c unchanged ends _ (no_memory kept heard))

    pub run_refused : HeardNobody words.place net_old net_new → (now : PagesState) (end : Ending) → same → IsBackAs a name now c → StaysThere (from_to a c) name
        → FailsToLoad (book_header service.share) 1024 (from_to a c) name end → EndsTouching ends (from_to a c) end
    run_refused heard now end kept back stays fails =
        record { touched = name ∷ []; cause = not_loaded name end is kept heard fails stays; keeps = back.keeps }

    pub run_with : (now : PagesState) (ids : List (List ℕ)) (end : Ending) → IsBackAs a name now c → StaysThere (from_to a c) name
        → ReadsAs (from_to a c) name (IsBook service.share ids) → NetServiceEnds words service (Some ids) same net_old net_new time end
        → EndsTouching ends (from_to a c) end
    run_with now ids end back stays reads net = record {
      touched = name ∷ [];
      cause = with_book (Some ids) end (name ∷ []) (rw is (book name ids reads))
          (All-cons (StaysThere (from_to a c)) name [] stays (All-nil (StaysThere (from_to a c)))) net;
      keeps = back.keeps;
    }
