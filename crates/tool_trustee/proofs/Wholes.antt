-- The whole command, from what a service with its book says.
use Rattle.std.proofs.Common.{◌≡◌, ◌+◌, ◌-◌, ◌^◌, ◌≤◌, min, ℕ, List, [], ◌∷◌, Option, Some, None, All, IsTrue, refl, arith}
use Rattle.std.specs.Prelude.{Contains}
use Rattle.std.proofs.lemmas.List.Elements.{All-cons, All-nil, All-weaker}
use Rattle.opening_journal.specs.declared.entry.Entry.{Entry}
use Rattle.share_files.specs.declared.share.Share.{Share}
use Rattle.stream_io.specs.Net.{NetState}
use Rattle.stream_io.specs.Store.{PagesState, Returned, StoreOnward, StoreState, Taken}
use Rattle.tool_base.specs.Ending.{Ending}
use Rattle.tool_base.specs.Grammars.{IsShareRead}
use Rattle.tool_base.specs.Touched.{Keeps}
use Rattle.tool_base.specs.World.{Failed, IsRead, Outside, TimeState, from_to}
use Rattle.tool_base.specs.Disks.{Stays}
use Rattle.tool_base.proofs.Outs.{IsBackAs}
use Rattle.tool_base.specs.Loads.{FailsToLoad}
use Rattle.tool_base.proofs.Takes.{other_gone, other_not_loaded, other_reads_as, other_stays}
use Rattle.tool_base.specs.Headers.{book_header}
use Rattle.tool_trustee.proofs.Asked.{only_asked}
use Rattle.tool_trustee.specs.Journals.{HasBook, IsBook, LeavesJournal, book, no_book}
use Rattle.tool_trustee.specs.Nets.{NetServiceEnds, service_of}
use Rattle.tool_trustee.specs.Nets as nets
use Rattle.tool_trustee.specs.Services.{BookEnds, StaysThere}
use Rattle.tool_trustee.specs.Services as services
use Rattle.tool_trustee.specs.Trustee.{HasNoBook, IsTrustee, TrusteeEnds, TrusteeRun, handed_of}
use Rattle.tool_trustee.specs.Trustee as trustee
use Rattle.tool_words.specs.Words.{TrusteeWords}
use Rattle.trustee_core.specs.Trustee.{journal_header}
use Rattle.trustee_core.specs.declared.note.Note.TheVariants.{Doubted}
use Rattle.trustee_node.specs.Ports.{turns_in}
use Rattle.trustee_node.specs.Trustees.{TrusteeState}
use Rattle.tool_base.proofs.Nets.{net_none}
use Rattle.tool_base.proofs.Heard.{heard_none}

module _ (words : TrusteeWords) (a e : StoreState) (net : NetState) (time : TimeState) where
  -- the journal was not loaded
  pub run_refused : (share : Share) (end : Ending) → IsShareRead (from_to a e) words.share share
      → FailsToLoad (journal_header share) (2 ^ share.params.h) (from_to a e) words.journal end → Stays (from_to a e) words.journal
      → (now : PagesState) → IsBackAs a words.journal now e
      → TrusteeRun words (record { store = a; net = net; time = time }) (record { store = e; net = net; time = time }) end
  run_refused share end read fails stays now back = record {
    touched = words.journal ∷ [];
    ends = trustee.journal_not_loaded share end read fails stays (heard_none words.place net net refl);
    keeps = back.keeps;
    net = net_none net;
    time = refl;
  }

module _ (words : TrusteeWords) (a b c e : StoreState) (net_old net_new : NetState) (time mid later : TimeState) (touched : List (List ℕ))
    (disk now : PagesState) (taken : Taken a words.journal disk b) (goes : StoreOnward a b)
    (keeps : Keeps touched b c) (step : Returned c words.journal now e) (comes : StoreOnward c e)
    (told_is : now.told ≡ disk.told) (honest_is : now.honest ≡ disk.honest) (steady_is : now.steady ≡ disk.steady) where
  abbrev before : Outside
  before = record { store = a; net = net_old; time = time }

  abbrev after : Outside
  after = record { store = e; net = net_new; time = later }

  whole_stays : (name : List ℕ) → StaysThere (from_to b c) name → Stays (from_to a e) name
  whole_stays name there = other_stays a b c e words.journal touched disk now taken goes keeps step comes told_is honest_is steady_is name there.file there.was there.stays

  all_stay : (names : List (List ℕ)) → All (StaysThere (from_to b c)) names → All (Stays (from_to a e)) names
  all_stay names there = All-weaker (StaysThere (from_to b c)) (Stays (from_to a e)) whole_stays names there

  has_book : (share : Share) (name : Option (List ℕ)) (ids : Option (List (List ℕ))) → HasBook (from_to b c) share name ids → HasBook (from_to a e) share name ids
  has_book share None None no_book = no_book
  has_book share _ _ (book name ids reads) =
      book name ids (other_reads_as a b c e words.journal touched disk now taken goes keeps step comes told_is honest_is steady_is name (IsBook share ids) reads)

  no_book_there : (name : List ℕ) → words.book ≡ Some name → IsRead (from_to b c) name Failed → HasNoBook words before after name
  no_book_there name named read = record {
    named = named;
    rose = let rose = read.0 in let first = goes.count in let last = comes.count in omega (arith, rose, first, last);
    absent = λ told steady.
        other_gone a b c e words.journal touched disk now taken goes keeps step comes told_is honest_is steady_is told name (read.1 (rw goes.told told) (rw goes.steady steady));
  }

  module _ (share : Share) (old new : TrusteeState) (doubt : Option Entry) (same : Type 0)
      (trustee_is : IsTrustee words before after share old.entries) (stays_journal : same → Stays (from_to a e) words.journal)
      (fresh : old.faults ≡ 0) (tells : IsTrue a.told → IsTrue old.name.told) (steadies : IsTrue a.steady → IsTrue old.name.steady) (name_is : new.name ≡ old.name) (kind : IsTrue a.told → a.disks words.journal ≡ handed_of old.name)
      (left : LeavesJournal (from_to a e) words.journal share (record { entries = new.entries; doubt = doubt }))
      (sure : new.faults ≡ 0 → doubt ≡ None) (settled : (entry : Entry) → Contains old.notes (Doubted entry) → ⊥) (doubt_is : doubt ≡ new.doubt) (rise : min (a.disk_count + new.faults) (2 ^ 64 - 1) ≤ e.disk_count) where
    with_stays : (names : List (List ℕ)) → same → All (StaysThere (from_to b c)) names → All (Stays (from_to a e)) (words.journal ∷ names)
    with_stays names is there = All-cons (Stays (from_to a e)) words.journal names (stays_journal is) (all_stay names there)

    net_whole : (ids : Option (List (List ℕ))) (end : Ending) (names : List (List ℕ)) → HasBook (from_to b c) share words.book ids → All (StaysThere (from_to b c)) names
        → NetServiceEnds words (service_of share old new) ids same net_old net_new time end → TrusteeEnds words before after end (words.journal ∷ names)
    net_whole ids _ names has there (nets.no_memory is heard) = trustee.no_memory (words.journal ∷ names) heard (with_stays names is there)
    net_whole ids _ names has there (nets.no_ports is heard rose offers) =
        trustee.no_ports share old.entries ids (words.journal ∷ names) trustee_is (has_book share words.book ids has) heard rose offers (with_stays names is there)
    net_whole ids _ names has there (nets.served end net) = trustee.served end names (record {
      share = share;
      old = old;
      new = new;
      trustee_is = trustee_is;
      fresh = fresh;
      name_is = name_is;
      told = tells;
      steady = steadies;
      kind = kind;
      doubt = doubt;
      left = left;
      sure = sure;
      rise = rise;
      ids = ids;
      book = has_book share words.book ids has;
      net = net;
      asked_for = only_asked share ids old new doubt (turns_in net.served.runs) settled doubt_is net.served.asked_for;
    }) (all_stay names there)

    pub ends_whole : (end : Ending) (names : List (List ℕ))
        → BookEnds words (service_of share old new) same (record { store = b; net = net_old; time = time }) (record { store = c; net = net_new; time = mid }) end names
        → TrusteeEnds words before after end (words.journal ∷ names)
    ends_whole _ _ (services.absent name named is heard read) =
        trustee.no_book share old.entries name trustee_is (no_book_there name named read) heard (stays_journal is)
    ends_whole _ _ (services.no_memory is heard) = trustee.no_memory (words.journal ∷ []) heard (with_stays [] is (All-nil (StaysThere (from_to b c))))
    ends_whole _ _ (services.not_loaded name end named is heard fails there) =
        trustee.book_not_loaded share old.entries name end trustee_is named
        (other_not_loaded a b c e words.journal touched disk now taken goes keeps step comes told_is honest_is steady_is (book_header share) 1024 name end fails)
        heard (stays_journal is) (whole_stays name there)
    ends_whole _ _ (services.with_book ids end names has there net) = net_whole ids end names has there net
