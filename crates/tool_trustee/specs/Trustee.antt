-- How `trustee` ends: it reads the share, loads the journal and the book, if there is one, makes ports, serves, and
-- gives all back.
use Rattle.std.specs.Prelude.{◌≡◌, ◌⊎◌, ◌+◌, ◌-◌, ◌^◌, ◌≤◌, ℕ, true, false, List, [], ◌∷◌, All, min, Option, Some, None}
use Rattle.std.specs.Prelude.{Contains, IsTrue}
use Rattle.std.specs.Str.{bytes_eq}
use Rattle.disk_trait.specs.Faults.{Rose}
use Rattle.opening_journal.specs.Entries.{JournalState}
use Rattle.opening_journal.specs.declared.entry.Entry.{Entry}
use Rattle.share_files.specs.declared.share.Share.{Share}
use Rattle.stream_io.specs.Store.{Handed}
use Rattle.tool_base.specs.Ending as ending
use Rattle.tool_base.specs.Ending.{Ending}
use Rattle.tool_base.specs.Grammars.{FailsGrammar, IsShareRead, share_fault_number}
use Rattle.tool_base.specs.Heard.{HeardNobody}
use Rattle.tool_base.specs.Touched.{Keeps}
use Rattle.tool_base.specs.World.{Failed, IsNetBack, IsRead, Outside, StoreRun, from_to}
use Rattle.tool_base.specs.Disks.{Stays}
use Rattle.tool_base.specs.Loads.{FailsToLoad, ReadsAs}
use Rattle.tool_base.specs.Headers.{book_header}
use Rattle.tool_trustee.specs.Journals.{HasBook, IsJournal, LeavesJournal}
use Rattle.tool_trustee.specs.Nets.{ServedNet, service_of}
use Rattle.tool_words.specs.Words.{TrusteeWords}
use Rattle.trustee_core.specs.Trustee.{journal_header}
use Rattle.trustee_core.specs.declared.kept.TrusteeName.{TrusteeName}
use Rattle.trustee_node.specs.Ports.{turns_in}
use Rattle.trustee_node.specs.Trustees.{TrusteeState}
use Rattle.trustee_node.specs.Turns.{IsAsked, Turn}

-- the store between two states of the outside
abbrev pub store_of : Outside → Outside → StoreRun
store_of before after = from_to before.store after.store

-- what never changes about the disk of a trustee
abbrev pub handed_of : TrusteeName → Handed
handed_of name = record { told = name.told; honest = name.honest; steady = name.steady }

-- the trustee of the words, with the entries of its journal
pub record IsTrustee (words : TrusteeWords) (before after : Outside) (share : Share) (entries : List Entry)
    : Type 0 where
  pub share_is : IsShareRead (store_of before after) words.share share
  pub journal_is : ReadsAs (store_of before after) words.journal (IsJournal share entries)

-- No disk of this name could be obtained besides that of the journal: the count of faults rose. In a steady store that
-- tells its content the name is the journal's, or nothing is read under it.
pub record HasNoBook (words : TrusteeWords) (before after : Outside) (name : List ℕ) : Type 0 where
  pub named : words.book ≡ Some name
  pub rose : Rose before.store.count after.store.count
  pub absent : IsTrue before.store.told → IsTrue before.store.steady
      → (bytes_eq name words.journal ≡ true) ⊎ (before.store.file name ≡ None)

-- Each entry of the journal, and the one in doubt, was there before or is that of an ask of one of these turns, one
-- that no book denied and that passed the tests before the journal.
pub record OnlyAsked (share : Share) (ids : Option (List (List ℕ))) (old : List Entry) (new : JournalState)
    (turns : List Turn) : Type 0 where
  pub entries : (entry : Entry) → Contains new.entries entry → Contains old entry ⊎ IsAsked share ids turns entry
  pub doubt : (entry : Entry) → new.doubt ≡ Some entry → Contains old entry ⊎ IsAsked share ids turns entry

-- The trustee of the words was served, from the entries of its journal to those that the journal has at the end. An
-- entry is in doubt only if the disk has failed, and the disk's faults are among those of the store's disks. Nothing is
-- bound that was not asked for, and nothing that the book denied, whatever the disk does.
pub record ServedTrustee (words : TrusteeWords) (before after : Outside) (end : Ending) : Type 0 where
  pub share : Share
  pub old : TrusteeState
  pub new : TrusteeState
  pub trustee_is : IsTrustee words before after share old.entries
  pub fresh : old.faults ≡ 0
  pub name_is : new.name ≡ old.name
  pub told : IsTrue before.store.told → IsTrue old.name.told
  pub steady : IsTrue before.store.steady → IsTrue old.name.steady
  pub kind : IsTrue before.store.told → before.store.disks words.journal ≡ handed_of old.name
  pub doubt : Option Entry
  pub left : LeavesJournal (store_of before after) words.journal share
      (record { entries = new.entries; doubt = doubt })
  pub sure : new.faults ≡ 0 → doubt ≡ None
  pub rise : min (before.store.disk_count + new.faults) (2 ^ 64 - 1) ≤ after.store.disk_count
  pub ids : Option (List (List ℕ))
  pub book : HasBook (store_of before after) share words.book ids
  pub net : ServedNet words (service_of share old new) ids before.net after.net before.time end
  pub asked_for : OnlyAsked share ids old.entries (record { entries = new.entries; doubt = doubt })
      (turns_in net.served.runs)

-- how the command ends, with the names that it touched
pub data TrusteeEnds (words : TrusteeWords) (before after : Outside) : Ending → List (List ℕ) → Type 0 where
  no_memory : (touched : List (List ℕ)) → HeardNobody words.place before.net after.net
      → All (Stays (store_of before after)) touched
      → TrusteeEnds words before after ending.NoMemory touched
  no_share : (end : Ending) → FailsGrammar share_fault_number (store_of before after) words.share end
      → HeardNobody words.place before.net after.net → TrusteeEnds words before after end []
  no_journal : (share : Share) → IsShareRead (store_of before after) words.share share
      → IsRead (store_of before after) words.journal Failed → HeardNobody words.place before.net after.net
      → TrusteeEnds words before after ending.StoreFailed []
  journal_not_loaded : (share : Share) (end : Ending) → IsShareRead (store_of before after) words.share share
      → FailsToLoad (journal_header share) (2 ^ share.params.h) (store_of before after) words.journal end
      → Stays (store_of before after) words.journal → HeardNobody words.place before.net after.net
      → TrusteeEnds words before after end (words.journal ∷ [])
  no_book : (share : Share) (entries : List Entry) (name : List ℕ) → IsTrustee words before after share entries
      → HasNoBook words before after name → HeardNobody words.place before.net after.net
      → Stays (store_of before after) words.journal
      → TrusteeEnds words before after ending.StoreFailed (words.journal ∷ [])
  book_not_loaded : (share : Share) (entries : List Entry) (name : List ℕ) (end : Ending)
      → IsTrustee words before after share entries → words.book ≡ Some name
      → FailsToLoad (book_header share) 1024 (store_of before after) name end
      → HeardNobody words.place before.net after.net → Stays (store_of before after) words.journal
      → Stays (store_of before after) name
      → TrusteeEnds words before after end (words.journal ∷ name ∷ [])
  no_ports : (share : Share) (entries : List Entry) (ids : Option (List (List ℕ))) (touched : List (List ℕ))
      → IsTrustee words before after share entries → HasBook (store_of before after) share words.book ids
      → HeardNobody words.place before.net after.net → Rose before.net.port_count after.net.port_count
      → (IsTrue before.net.told → IsTrue before.net.steady → before.net.offers words.place ≡ false)
      → All (Stays (store_of before after)) touched → TrusteeEnds words before after ending.NetFailed touched
  served : (end : Ending) (books : List (List ℕ)) → ServedTrustee words before after end
      → All (Stays (store_of before after)) books
      → TrusteeEnds words before after end (words.journal ∷ books)

-- The command `trustee`: an end according to its rules. The store keeps all but the names that it touched, and all
-- disks and ports are back.
pub record TrusteeRun (words : TrusteeWords) (before after : Outside) (end : Ending) : Type 0 where
  pub touched : List (List ℕ)
  pub ends : TrusteeEnds words before after end touched
  pub keeps : Keeps touched before.store after.store
  pub net : IsNetBack before.net after.net
  pub time : after.time ≡ before.time
