-- What the disks of a drill hold at its end.
use Rattle.std.specs.Prelude.{◌≡◌, ◌⊎◌, ◌<◌, ◌≤◌, ◌+◌, ◌-◌, ◌%◌, ℕ, List, [], length, slice_index_or, Contains}
use Rattle.coalition_map.specs.Coalitions.{leaf_members}
use Rattle.dealer.specs.Entropy.{dealing_of}
use Rattle.disk_trait.specs.MemDisk.{stable_disk}
use Rattle.drill_schedule.specs.Draws.{entropy_of, message_bytes}
use Rattle.leaf_table.specs.Entries.{IsFree, IsLeased, LeafUse}
use Rattle.leaf_table.specs.Loading.{IsTableFile}
use Rattle.leaf_table.specs.Slots.{use_of_slot}
use Rattle.opening_journal.specs.Entries as journals
use Rattle.opening_journal.specs.Entries.{IsOpened, LeafState, state_in_file}
use Rattle.opening_journal.specs.Loading.{IsJournalFile}
use Rattle.ots_chain.specs.MessageHash.{message_digest}
use Rattle.reference_value.specs.Dealing.{Dealing, leaf_randomizer}
use Rattle.slot_file.specs.Layout.{slot_at}
use Rattle.slot_file.specs.declared.header.Header.{Header}
use Rattle.drill.specs.Counts.{is_open, sum_below}
use Rattle.drill.specs.Ids.{id_of}
use Rattle.drill.specs.declared.run.Drilled.{Drilled}

-- the dealing of a drill: of the typecodes 5 and 3, for three trustees of whom two sign together, from the entropy that
-- is drawn from the drill's number
pub record IsDealing (number : ℕ) (d : Dealing) : Type 0 where
  pub lms : d.params.lms ≡ 5
  pub ots : d.params.ots ≡ 3
  pub drawn : d ≡ dealing_of d.params (record { n = 3; k = 2; h = 5 }) (entropy_of number)

-- the header of a file for the dealt key, of this version and for the trustee of this number
abbrev pub header_for : Dealing → ℕ → ℕ → Header
header_for d version number = record { version = version; number = number; lms = 5; ots = 3; id = d.id }

-- the bytes of the disk of trustee t
abbrev pub journal_in : Drilled → ℕ → List ℕ
journal_in drilled t = (slice_index_or drilled.journals.items (t - 1) (stable_disk [] 0 0)).bytes

-- leaf q in the leaf table's file, and in the journal of trustee t
abbrev pub use_in : Drilled → ℕ → LeafUse
use_in drilled q = use_of_slot (slot_at 1 q drilled.table.bytes)

abbrev pub state_in : Drilled → ℕ → ℕ → LeafState
state_in drilled t q = state_in_file 32 (journal_in drilled t) q

-- the randomizer and the digest of message i under which leaf q is opened
abbrev pub opened_for : Dealing → ℕ → ℕ → LeafState
opened_for d i q =
    let c = leaf_randomizer d q in
    IsOpened (id_of i) c (message_digest d.params d.id q c (message_bytes i)) 0

-- leaf q is free in the table and in each journal
pub record IsUnused (drilled : Drilled) (q : ℕ) : Type 0 where
  pub table : use_in drilled q ≡ IsFree
  pub journals_are : (t : ℕ) → 1 ≤ t → t ≤ 3 → state_in drilled t q ≡ journals.IsFree

-- Leaf q is leased for one of the sessions, of its own coalition, and no other leaf is. Its members have opened it for
-- this session's message, with the dealer's randomizer, and the trustee that is no member has it free.
pub record IsUsed (d : Dealing) (sessions : ℕ) (drilled : Drilled) (q : ℕ) : Type 0 where
  pub session : ℕ
  pub within : session < sessions
  pub coalition : q % 3 ≡ session % 3
  pub leased : use_in drilled q ≡ IsLeased (id_of session)
  pub only : (r : ℕ) → r < 32 → use_in drilled r ≡ IsLeased (id_of session) → r ≡ q
  pub members : (t : ℕ) → Contains (leaf_members d.plan q) t → state_in drilled t q ≡ opened_for d session q
  pub others : (t : ℕ) → 1 ≤ t → t ≤ 3 → (Contains (leaf_members d.plan q) t → ⊥)
      → state_in drilled t q ≡ journals.IsFree

-- The table's disk holds a leaf table, and there are three more, with the journals of trustees 1, 2 and 3 in this
-- order. Each of the 32 leaves is unused, or used by a session, and as many are used as sessions have signed.
pub record AreDisks (number sessions : ℕ) (drilled : Drilled) : Type 0 where
  pub dealing : Dealing
  pub dealing_is : IsDealing number dealing
  pub count : length drilled.journals.items ≡ 3
  pub table : IsTableFile (header_for dealing 1 0) 32 drilled.table.bytes
  pub journals_are : (t : ℕ) → 1 ≤ t → t ≤ 3 → IsJournalFile (header_for dealing 2 t) 32 (journal_in drilled t)
  pub leaves : (q : ℕ) → q < 32 → IsUnused drilled q ⊎ IsUsed dealing sessions drilled q
  pub signed : drilled.summary.signed + sum_below (λ q. is_open (use_in drilled q)) 32 ≡ 32
