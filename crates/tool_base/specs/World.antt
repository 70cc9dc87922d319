-- What is known of the outside before and after a call of the tool.
use Rattle.std.specs.Prelude.{◌≡◌, ◌≤◌, ◌<◌, ℕ, Bool, List, Some, None, length, option_map, IsTrue}
use Rattle.disk_trait.specs.Faults.{Rose}
use Rattle.stream_io.specs.Net.{NetOnward, NetState}
use Rattle.stream_io.specs.Store.{SameStore, StoreOnward, StoreState}
use Rattle.stream_io.specs.Talk.{Talk}

-- what makes clocks: whether it tells their answers, and what every clock answers, the first answer at 0
pub record TimeState : Type 0 where
  pub told : Bool
  pub answers : ℕ → ℕ

-- all that a call is given, in one state, except for its output
pub record Outside : Type 1 where
  pub store : StoreState
  pub net : NetState
  pub time : TimeState

-- an output: whether it is steady, the room that it has, and its talk before and after
pub record OutputRun : Type 0 where
  pub steady : Bool
  pub room : ℕ
  pub before : Talk
  pub after : Talk

-- an output from one state to another
abbrev pub output_run : {O : Type 0} → (O → Bool) → (O → ℕ) → (O → Talk) → O → O → OutputRun
output_run steady room talk before after = record {
  steady = steady before;
  room = room before;
  before = talk before;
  after = talk after;
}

pub record World : Type 1 where
  pub before : Outside
  pub after : Outside
  pub output : OutputRun

-- no object changes its kind, and no count falls
pub record Onward (old new : Outside) : Type 0 where
  pub store : StoreOnward old.store new.store
  pub net : NetOnward old.net new.net
  pub time : new.time ≡ old.time

-- every disk, view and port that was handed out is back
pub record AllBack (old new : Outside) : Type 0 where
  pub disks : IsTrue old.store.told → (name : List ℕ) → new.store.out name ≡ old.store.out name
  pub views : IsTrue old.store.told → new.store.views ≡ old.store.views
  pub ports : IsTrue old.net.told → new.net.out ≡ old.net.out

-- a store from one state to a later one
pub record StoreRun : Type 1 where
  pub before : StoreState
  pub after : StoreState

abbrev pub from_to : StoreState → StoreState → StoreRun
from_to before after = record { before = before; after = after }

-- nothing changed, except that counts may have risen
pub record IsUnchanged (old new : StoreState) : Type 0 where
  pub same : SameStore old new
  pub onward : StoreOnward old new

-- a part of a run from its first state to its last: nothing changed before this part, and no count fell after it
pub record IsPart (first before after last : StoreState) : Type 0 where
  pub earlier : IsUnchanged first before
  pub later : StoreOnward after last

-- In any run that a call is a part of, which took the store from one of these objects to the other: whatever the first
-- and the last object of the run, this holds of it.
abbrev pub InAnyRun : {S : Type 0} → (S → StoreState) → S → S → (StoreRun → Type 0) → Type 0
InAnyRun {S} state before after holds = (first last : S)
    → IsPart (state first) (state before) (state after) (state last) → holds (from_to (state first) (state last))

-- what a command makes of a store: no count fell, and all that was handed out is back
pub record IsBack (old new : StoreState) : Type 0 where
  pub onward : StoreOnward old new
  pub out : IsTrue old.told → (name : List ℕ) → new.out name ≡ old.out name
  pub views : IsTrue old.told → new.views ≡ old.views

-- no count of a net fell, and all ports are back
pub record IsNetBack (old new : NetState) : Type 0 where
  pub onward : NetOnward old new
  pub out : IsTrue old.told → new.out ≡ old.out

-- how long a file may be that the tool reads whole
abbrev pub file_limit : ℕ
file_limit = 67108864

-- what came of reading a file
pub data Reading : Type 0 where
  Failed : Reading
  TooLong : (got : ℕ) → Reading
  Bytes : (bytes : List ℕ) → Reading

-- Reading the file of this name up to a limit came to this. It fails only if the count of faults rose, and over a
-- steady store that tells its content only if nothing is read under the name.
abbrev pub IsReadUpTo : ℕ → StoreRun → List ℕ → Reading → Type 0
IsReadUpTo limit store name Failed = Rose store.before.count store.after.count
    × (IsTrue store.before.told → IsTrue store.before.steady → store.before.file name ≡ None)
IsReadUpTo limit store name (TooLong got) = (limit < got)
    × (IsTrue store.before.told → option_map length (store.before.file name) ≡ Some got)
IsReadUpTo limit store name (Bytes bytes) = (length bytes ≤ limit)
    × (IsTrue store.before.told → store.before.file name ≡ Some bytes)

abbrev pub IsRead : StoreRun → List ℕ → Reading → Type 0
IsRead = IsReadUpTo file_limit
