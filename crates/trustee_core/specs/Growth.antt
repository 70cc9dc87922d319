-- How leaves, maps of leaves and lists of entries grow.
use Rattle.std.specs.Prelude.{◌≡◌, ◌<◌, ◌≤◌, ℕ, List, ◌++◌, length}
use Rattle.opening_journal.specs.Entries.{IsBound, IsFree, IsOpened, JournalState, LeafState, map_of}
use Rattle.opening_journal.specs.Opening.{SettlesTo}
use Rattle.opening_journal.specs.declared.entry.Entry.{Entry}

-- a leaf is as it was, or was free, or was bound to a message and is opened for it
pub data IsBelow : LeafState → LeafState → Type 0 where
  same : (state : LeafState) → IsBelow state state
  frees : (state : LeafState) → IsBelow IsFree state
  opens : (message c digest : List ℕ) (moment : ℕ) → IsBelow (IsBound message) (IsOpened message c digest moment)

-- m <= m' over that many leaves, for the maps of two lists of entries
abbrev pub MapGrows : ℕ → List Entry → List Entry → Type 0
MapGrows count old new = (leaf : ℕ) → leaf < count → IsBelow (map_of old leaf) (map_of new leaf)

-- the entries are those before, with the one in doubt or without, and at most one more
pub record Extends (before : JournalState) (entries : List Entry) : Type 0 where
  pub settled : List Entry
  pub added : List Entry
  pub settles : SettlesTo before settled
  pub entries_are : entries ≡ settled ++ added
  pub few : length added ≤ 1
