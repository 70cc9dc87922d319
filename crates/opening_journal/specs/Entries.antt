-- What a journal keeps for each leaf: by its entries, and by the slots of its file.
use Rattle.std.specs.Prelude.{◌≡◌, ◌<◌, ◌⊎◌, ℕ, List, ◌∷◌, ◌++◌, [], take, drop, fold}
use Rattle.std.specs.Prelude.{Option, Some}
use Rattle.lms_bytes.specs.MessageId.{message_id_bytes}
use Rattle.opening_journal.specs.declared.entry.Entry.{Entry}
use Rattle.opening_journal.specs.declared.entry.Entry.TheVariants.{Bound, Opened}
use Rattle.slot_file.specs.Layout.{slot_at}
use Rattle.slot_file.specs.Logs.{IsLegal, with_entry}
use Rattle.slot_file.specs.declared.slot.Slot.{Slot}
use Rattle.slot_file.specs.declared.slot.Slot.TheVariants.{Free, Half, Full, Damaged}

-- A leaf is free, bound to a message by its id of 36 bytes, or opened for that message with C and Q at a moment. A slot
-- whose gate B is open and gate A is not is torn.
pub data LeafState : Type 0 where
  IsFree : LeafState
  IsBound : (message : List ℕ) → LeafState
  IsOpened : (message c digest : List ℕ) → (moment : ℕ) → LeafState
  IsTorn : (a b : ℕ) → LeafState

-- the leaf of an entry
abbrev pub leaf_of : Entry → ℕ
leaf_of (Bound leaf message) = leaf
leaf_of (Opened leaf message c digest moment) = leaf

-- its leaf before it and after it
abbrev pub state_before : Entry → LeafState
state_before (Bound leaf message) = IsFree
state_before (Opened leaf message c digest moment) = IsBound (message_id_bytes message)

abbrev pub state_after : Entry → LeafState
state_after (Bound leaf message) = IsBound (message_id_bytes message)
state_after (Opened leaf message c digest moment) = IsOpened (message_id_bytes message) c digest moment

-- all leaves once these entries were made, in this order
unfoldable pub map_of : List Entry → ℕ → LeafState
map_of entries = fold (with_entry leaf_of state_after) (λ leaf. IsFree) entries

-- the entry may follow if its leaf is this
abbrev pub Adds : Entry → LeafState → Type 0
Adds entry state = state ≡ state_before entry

-- an entry may follow these
abbrev pub Follows : List Entry → Entry → Type 0
Follows entries entry = Adds entry (map_of entries (leaf_of entry))

-- each entry may follow those before it
abbrev pub IsLegalList : List Entry → Type 0
IsLegalList entries = IsLegal Follows entries

-- this project's profile: body A of a slot is the message id, and body B is C and Q, each filled to 32 bytes; n is the
-- hash length
abbrev pub state_of_slot : ℕ → Slot → LeafState
state_of_slot n Free = IsFree
state_of_slot n (Half a) = IsBound a
state_of_slot n (Full a b moment) = IsOpened a (take n b) (take n (drop 32 b)) moment
state_of_slot n (Damaged a b) = IsTorn a b

-- a leaf in a journal's file, which is of version 2
abbrev pub state_in_file : ℕ → List ℕ → ℕ → LeafState
state_in_file n file leaf = state_of_slot n (slot_at 2 leaf file)

-- the file has just these entries, for `count` leaves
abbrev pub HasEntries : ℕ → ℕ → List ℕ → List Entry → Type 0
HasEntries n count file entries = (leaf : ℕ) → leaf < count → state_in_file n file leaf ≡ map_of entries leaf

-- what a journal stands for: its entries, and one more that may or may not have been made
pub record JournalState : Type 0 where
  pub entries : List Entry
  pub doubt : Option Entry

-- the file stands for the journal: with the entry in doubt, or without
abbrev pub StandsFor : ℕ → ℕ → List ℕ → JournalState → Type 0
StandsFor n count file state =
    HasEntries n count file state.entries
    ⊎ ((entry : Entry) × (state.doubt ≡ Some entry) × HasEntries n count file (state.entries ++ (entry ∷ [])))
