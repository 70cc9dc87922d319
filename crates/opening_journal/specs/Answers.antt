-- What a leaf answers, and what the steps of a call make. Only contracts inside the crate speak of it.
use Rattle.std.specs.Prelude.{◌≡◌, ◌≢◌, ◌⊎◌, ℕ, List, [], ◌∷◌, ◌++◌, length, take, drop, None, Some, IsSome, Result, Ok}
use Rattle.std.specs.Prelude.{Err}
use Rattle.lms_bytes.specs.MessageId.{message_id_bytes}
use Rattle.lms_bytes.specs.declared.message.MessageId.{MessageId}
use Rattle.opening_journal.specs.Entries.{IsBound, IsFree, IsOpened, JournalState, LeafState, leaf_of}
use Rattle.opening_journal.specs.EntrySlots.{slot_before, slot_with}
use Rattle.opening_journal.specs.Opening.{AnswersFor, Binds, Opens, SettlesTo, settled_with}
use Rattle.opening_journal.specs.declared.entry.Entry.{Entry}
use Rattle.opening_journal.specs.declared.entry.Entry.TheVariants.{Bound, Opened}
use Rattle.opening_journal.specs.declared.faults.Entered.{Entered}
use Rattle.opening_journal.specs.declared.faults.Entered.TheVariants.{New, Old}
use Rattle.opening_journal.specs.declared.faults.JournalFault.{JournalFault}
use Rattle.opening_journal.specs.declared.faults.JournalFault.TheVariants.{Device, Damaged, NotBound, Spent}
use Rattle.opening_journal.specs.declared.faults.JournalFault.TheVariants.{OtherDigest}
use Rattle.slot_file.specs.Calls.{IsNeither}

-- C and Q have n bytes
abbrev pub HasSizes : ℕ → Entry → Type 0
HasSizes n (Bound leaf message) = Unit {0}
HasSizes n (Opened leaf message c digest moment) = (length c ≡ n) × (length digest ≡ n)

-- the doubt is settled, or stays if the disk failed or the slot is neither as before nor as after
abbrev pub Settles : JournalState → Result (Unit {0}) JournalFault → JournalState → Type 0
Settles before (Ok done) after = (after.doubt ≡ None) × SettlesTo before after.entries
Settles before (Err Device) after = IsSome before.doubt × (after ≡ before)
Settles before (Err (Damaged leaf a b)) after =
    (entry : Entry) × (before.doubt ≡ Some entry) × (leaf ≡ leaf_of entry) × (after ≡ before)
    × IsNeither 2 (slot_before entry) (slot_with entry) a b
Settles before (Err fault) after = ⊥

-- the entry was made, or is in doubt
abbrev pub Makes : List Entry → Entry → Result Entered JournalFault → JournalState → Type 0
Makes entries entry (Ok New) after = after ≡ settled_with (entries ++ entry ∷ [])
Makes entries entry (Ok Old) after = ⊥
Makes entries entry (Err Device) after = after ≡ record { entries = entries; doubt = Some entry }
Makes entries entry (Err fault) after = ⊥

-- what a leaf answers when it is asked to be bound to a message; New if it can be
abbrev pub BindsAs : MessageId → LeafState → Result Entered JournalFault → Type 0
BindsAs message state (Ok New) = state ≡ IsFree
BindsAs message state (Ok Old) = AnswersFor (message_id_bytes message) state
BindsAs message state (Err (Spent other)) =
    AnswersFor (message_id_bytes other) state × (message_id_bytes other ≢ message_id_bytes message)
BindsAs message state (Err fault) = ⊥

-- what a leaf that is bound to the message of a body A answers when it is asked to be bound to one
abbrev pub IsOldOrSpent : List ℕ → MessageId → Result Entered JournalFault → Type 0
IsOldOrSpent kept message (Ok New) = ⊥
IsOldOrSpent kept message (Ok Old) = kept ≡ message_id_bytes message
IsOldOrSpent kept message (Err (Spent other)) =
    (message_id_bytes other ≡ kept) × (message_id_bytes other ≢ message_id_bytes message)
IsOldOrSpent kept message (Err fault) = ⊥

-- what a leaf that was opened with the pair of a body B answers when it is asked to be opened with C and Q
abbrev pub IsSamePair : ℕ → List ℕ → List ℕ → List ℕ → Result Entered JournalFault → Type 0
IsSamePair n body c digest (Ok New) = ⊥
IsSamePair n body c digest (Ok Old) = (take n body ≡ c) × (take n (drop 32 body) ≡ digest)
IsSamePair n body c digest (Err (OtherDigest x y)) =
    (x ≡ take n body) × (y ≡ take n (drop 32 body)) × ((x ≢ c) ⊎ (y ≢ digest))
IsSamePair n body c digest (Err fault) = ⊥

-- what a leaf answers when it is asked to be opened for a message with C and Q
abbrev pub OpensAs : MessageId → List ℕ → List ℕ → LeafState → Result Entered JournalFault → Type 0
OpensAs message c digest state (Ok New) = state ≡ IsBound (message_id_bytes message)
OpensAs message c digest state (Ok Old) = (then : ℕ) × (state ≡ IsOpened (message_id_bytes message) c digest then)
OpensAs message c digest state (Err NotBound) = state ≡ IsFree
OpensAs message c digest state (Err (Spent other)) =
    AnswersFor (message_id_bytes other) state × (message_id_bytes other ≢ message_id_bytes message)
OpensAs message c digest state (Err (OtherDigest x y)) =
    (then : ℕ) × (state ≡ IsOpened (message_id_bytes message) x y then) × ((x ≢ c) ⊎ (y ≢ digest))
OpensAs message c digest state (Err Device) = ⊥
OpensAs message c digest state (Err (Damaged leaf a b)) = ⊥

-- what a leaf answers when it is asked for an entry
abbrev pub AnswersAs : Entry → LeafState → Result Entered JournalFault → Type 0
AnswersAs (Bound leaf message) state result = BindsAs message state result
AnswersAs (Opened leaf message c digest moment) state result = OpensAs message c digest state result

-- what asking for an entry does
abbrev pub AsksFor : JournalState → Entry → Result Entered JournalFault → JournalState → Type 0
AsksFor before (Bound leaf message) result after = Binds before leaf message result after
AsksFor before (Opened leaf message c digest moment) result after =
    Opens before leaf message c digest moment result after
