-- What binding a leaf and opening it do: the doubt is settled first, the tests follow in their order, and at most one
-- entry is made.
use Rattle.std.specs.Prelude.{◌≡◌, ◌≢◌, ◌⊎◌, ℕ, List, [], ◌∷◌, ◌++◌, None, Some, Result, Ok, Err, IsSome}
use Rattle.lms_bytes.specs.MessageId.{message_id_bytes}
use Rattle.lms_bytes.specs.declared.message.MessageId.{MessageId}
use Rattle.opening_journal.specs.Entries.{IsBound, IsFree, IsOpened, JournalState, LeafState, leaf_of, map_of}
use Rattle.opening_journal.specs.EntrySlots.{slot_before, slot_with}
use Rattle.opening_journal.specs.declared.entry.Entry.{Entry}
use Rattle.opening_journal.specs.declared.entry.Entry.TheVariants.{Bound, Opened}
use Rattle.opening_journal.specs.declared.faults.Entered.{Entered}
use Rattle.opening_journal.specs.declared.faults.Entered.TheVariants.{New, Old}
use Rattle.opening_journal.specs.declared.faults.JournalFault.{JournalFault}
use Rattle.opening_journal.specs.declared.faults.JournalFault.TheVariants.{Device, Damaged, NotBound, Spent}
use Rattle.opening_journal.specs.declared.faults.JournalFault.TheVariants.{OtherDigest}
use Rattle.slot_file.specs.Calls.{IsNeither}

-- the state with these entries and no doubt
abbrev pub settled_with : List Entry → JournalState
settled_with entries = record { entries = entries; doubt = None }

-- the entry in doubt was made or was not: these are the entries then
abbrev pub SettlesTo : JournalState → List Entry → Type 0
SettlesTo state entries =
    (entries ≡ state.entries)
    ⊎ ((entry : Entry) × (state.doubt ≡ Some entry) × (entries ≡ state.entries ++ (entry ∷ [])))

-- the leaf answers for this message
pub data AnswersFor (message : List ℕ) : LeafState → Type 0 where
  bound : AnswersFor message (IsBound message)
  opened : (c digest : List ℕ) (moment : ℕ) → AnswersFor message (IsOpened message c digest moment)

-- what asking to bind a leaf to a message does
pub data Binds (before : JournalState) (leaf : ℕ) (message : MessageId)
    : Result Entered JournalFault → JournalState → Type 0 where
  made : (entries : List Entry) → SettlesTo before entries → map_of entries leaf ≡ IsFree
      → Binds before leaf message (Ok New) (settled_with (entries ++ (Bound leaf message ∷ [])))
  kept : (entries : List Entry) → SettlesTo before entries → AnswersFor (message_id_bytes message) (map_of entries leaf)
      → Binds before leaf message (Ok Old) (settled_with entries)
  spent : (entries : List Entry) (other : MessageId) → SettlesTo before entries
      → AnswersFor (message_id_bytes other) (map_of entries leaf) → message_id_bytes other ≢ message_id_bytes message
      → Binds before leaf message (Err (Spent other)) (settled_with entries)
  unsettled : IsSome before.doubt → Binds before leaf message (Err Device) before
  unwritten : (entries : List Entry) → SettlesTo before entries → map_of entries leaf ≡ IsFree
      → Binds before leaf message (Err Device) (record { entries = entries; doubt = Some (Bound leaf message) })
  damaged : (entry : Entry) (a b : ℕ) → before.doubt ≡ Some entry
      → IsNeither 2 (slot_before entry) (slot_with entry) a b
      → Binds before leaf message (Err (Damaged (leaf_of entry) a b)) before

-- what asking to open a leaf for a message with C and Q does
pub data Opens (before : JournalState) (leaf : ℕ) (message : MessageId) (c digest : List ℕ) (moment : ℕ)
    : Result Entered JournalFault → JournalState → Type 0 where
  made : (entries : List Entry) → SettlesTo before entries → map_of entries leaf ≡ IsBound (message_id_bytes message)
      → Opens before leaf message c digest moment (Ok New)
      (settled_with (entries ++ (Opened leaf message c digest moment ∷ [])))
  kept : (entries : List Entry) (then : ℕ) → SettlesTo before entries
      → map_of entries leaf ≡ IsOpened (message_id_bytes message) c digest then
      → Opens before leaf message c digest moment (Ok Old) (settled_with entries)
  not_bound : (entries : List Entry) → SettlesTo before entries → map_of entries leaf ≡ IsFree
      → Opens before leaf message c digest moment (Err NotBound) (settled_with entries)
  spent : (entries : List Entry) (other : MessageId) → SettlesTo before entries
      → AnswersFor (message_id_bytes other) (map_of entries leaf) → message_id_bytes other ≢ message_id_bytes message
      → Opens before leaf message c digest moment (Err (Spent other)) (settled_with entries)
  other_digest : (entries : List Entry) (kept_c kept_digest : List ℕ) (then : ℕ) → SettlesTo before entries
      → map_of entries leaf ≡ IsOpened (message_id_bytes message) kept_c kept_digest then
      → ((kept_c ≢ c) ⊎ (kept_digest ≢ digest))
      → Opens before leaf message c digest moment (Err (OtherDigest kept_c kept_digest)) (settled_with entries)
  unsettled : IsSome before.doubt → Opens before leaf message c digest moment (Err Device) before
  unwritten : (entries : List Entry) → SettlesTo before entries
      → map_of entries leaf ≡ IsBound (message_id_bytes message)
      → Opens before leaf message c digest moment (Err Device)
      (record { entries = entries; doubt = Some (Opened leaf message c digest moment) })
  damaged : (entry : Entry) (a b : ℕ) → before.doubt ≡ Some entry
      → IsNeither 2 (slot_before entry) (slot_with entry) a b
      → Opens before leaf message c digest moment (Err (Damaged (leaf_of entry) a b)) before
