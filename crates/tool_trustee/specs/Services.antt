-- A service with a book or with none.
use Rattle.std.specs.Prelude.{◌≡◌, ℕ, List, [], ◌∷◌, All, Option, Some, IsTrue}
use Rattle.stream_io.specs.declared.call_fault.CallFault.{CallFault}
use Rattle.stream_io.specs.declared.call_fault.CallFault.TheVariants as call
use Rattle.tool_base.specs.Ending as ending
use Rattle.tool_base.specs.Ending.{Ending}
use Rattle.tool_base.specs.Heard.{HeardNobody}
use Rattle.tool_base.specs.World.{Failed, IsRead, Outside, StoreRun, from_to}
use Rattle.tool_base.specs.Disks.{Stays}
use Rattle.tool_base.specs.Loads.{FailsToLoad}
use Rattle.tool_base.specs.Headers.{book_header}
use Rattle.tool_trustee.specs.Journals.{HasBook}
use Rattle.tool_trustee.specs.Nets.{NetServiceEnds, Service}
use Rattle.tool_words.specs.Words.{TrusteeWords}

-- the end if a disk was not taken
abbrev pub end_of_call : CallFault → Ending
end_of_call call.Failed = ending.StoreFailed
end_of_call call.NoMemory = ending.NoMemory

-- internal: the name was read as this file, and stays
pub record StaysThere (store : StoreRun) (name : List ℕ) : Type 0 where
  pub file : List ℕ
  pub was : IsTrue store.before.told → store.before.file name ≡ Some file
  pub stays : Stays store name

-- internal: how a service ends once the journal is loaded, with the names that it touched besides the journal's
pub data BookEnds (words : TrusteeWords) (service : Service) (same : Type 0) (before after : Outside)
    : Ending → List (List ℕ) → Type 0 where
  absent : (name : List ℕ) → words.book ≡ Some name → same → HeardNobody words.place before.net after.net
      → IsRead (from_to before.store after.store) name Failed
      → BookEnds words service same before after ending.StoreFailed []
  no_memory : same → HeardNobody words.place before.net after.net
      → BookEnds words service same before after ending.NoMemory []
  not_loaded : (name : List ℕ) (end : Ending) → words.book ≡ Some name → same
      → HeardNobody words.place before.net after.net
      → FailsToLoad (book_header service.share) 1024 (from_to before.store after.store) name end
      → StaysThere (from_to before.store after.store) name
      → BookEnds words service same before after end (name ∷ [])
  with_book : (ids : Option (List (List ℕ))) (end : Ending) (touched : List (List ℕ))
      → HasBook (from_to before.store after.store) service.share words.book ids
      → All (StaysThere (from_to before.store after.store)) touched
      → NetServiceEnds words service ids same before.net after.net before.time end
      → BookEnds words service same before after end touched
