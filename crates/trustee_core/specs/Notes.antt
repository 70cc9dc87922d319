-- What a trustee notes: the entries that were made, and those that a fault of the disk left in doubt.
use Rattle.std.specs.Prelude.{◌≡◌, ◌≢◌, ℕ, List, [], ◌∷◌, ◌++◌, Option, None, Some, All, Contains, map}
use Rattle.std.specs.List.{flat_map}
use Rattle.lms_bytes.specs.declared.ask.Ask.{Ask}
use Rattle.lms_bytes.specs.declared.ask.Second.{Second}
use Rattle.opening_journal.specs.Entries.{JournalState}
use Rattle.opening_journal.specs.declared.entry.Entry.{Entry}
use Rattle.opening_journal.specs.declared.entry.Entry.TheVariants.{Bound, Opened}
use Rattle.opening_journal.specs.declared.faults.JournalFault.TheVariants as journal
use Rattle.trustee_core.specs.Decisions.{Answer, Refused}
use Rattle.trustee_core.specs.declared.note.Note.{Note}
use Rattle.trustee_core.specs.declared.note.Note.TheVariants.{Made, Doubted}
use Rattle.trustee_core.specs.declared.refusal.Refusal.TheVariants.{Journal}

-- the entry that a note says was made, in a list
abbrev pub entry_in : Note → List Entry
entry_in (Made entry) = entry ∷ []
entry_in (Doubted entry) = []

-- the entries that were made, in their order
abbrev pub entries_in : List Note → List Entry
entries_in notes = flat_map entry_in notes

-- a note of each of these entries, that it was made
abbrev pub made : List Entry → List Note
made entries = map (λ entry. Made entry) entries

-- a note of the entry in doubt, if there is one
abbrev pub doubted : Option Entry → List Note
doubted None = []
doubted (Some entry) = Doubted entry ∷ []

-- the notes of a trustee that begins with a journal: its entries, and after them its doubt
abbrev pub first_notes : JournalState → List Note
first_notes state = made state.entries ++ doubted state.doubt

-- internal: not each of the notes differs from this one
abbrev pub HasNote : List Note → Note → Type 0
HasNote notes note = All (λ other. other ≢ note) notes → ⊥

-- the entry of an ask, by whether it has a pair of round two
abbrev pub entry_by : Option Second → Ask → ℕ → Entry
entry_by None ask moment = Bound ask.leaf ask.message
entry_by (Some pair) ask moment = Opened ask.leaf ask.message pair.c pair.digest moment

-- the entry that an ask makes at a moment: round one binds its leaf, and round two opens it
abbrev pub entry_of : Ask → ℕ → Entry
entry_of ask moment = entry_by ask.second ask moment

-- What a decision may note: that the entry of its ask was made, that a fault left it in doubt, or that an entry in
-- doubt turned out to be made.
pub data MayNote (notes : List Note) (ask : Ask) (moment : ℕ) (answer : Answer) : Note → Type 0 where
  own_made : MayNote notes ask moment answer (Made (entry_of ask moment))
  own_doubted : answer ≡ Refused (Journal journal.Device)
      → MayNote notes ask moment answer (Doubted (entry_of ask moment))
  turned_out : (entry : Entry) → Contains notes (Doubted entry) → MayNote notes ask moment answer (Made entry)

-- the notes before a decision, and after them what it may note
pub record Notes (ask : Ask) (moment : ℕ) (answer : Answer) (old new : List Note) : Type 0 where
  pub added : List Note
  pub are : new ≡ old ++ added
  pub each : All (MayNote old ask moment answer) added
