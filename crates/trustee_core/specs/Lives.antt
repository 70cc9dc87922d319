-- All that happens to a trustee's journal, through crashes and restarts, and what that says of its answers.
use Rattle.std.specs.Prelude.{◌≡◌, ◌<◌, ◌^◌, ℕ, List, [], ◌∷◌, Some, Contains, is_some}
use Rattle.lms_bytes.specs.MessageId.{message_id_bytes}
use Rattle.lms_bytes.specs.declared.ask.Ask.{Ask}
use Rattle.lms_bytes.specs.declared.ask.Second.{Second}
use Rattle.opening_journal.specs.Entries.{JournalState, map_of}
use Rattle.opening_journal.specs.Opening.{SettlesTo, settled_with}
use Rattle.opening_journal.specs.declared.entry.Entry.{Entry}
use Rattle.share_files.specs.declared.share.Share.{Share}
use Rattle.trustee_core.specs.Decisions.{Answer, Decides, Granted, Refused}
use Rattle.trustee_core.specs.Grants.{mask_of}

-- an ask and what it was answered
pub record Answered : Type 0 where
  pub ask : Ask
  pub answer : Answer

-- Events from one state of the journal to another, and the answers that were given, in their order. A crash may fall on
-- any ask: its answer is lost, and the entry that it was about to make was made or was not. Loading gives entries, in
-- any order, that make of each leaf what was kept of it.
pub data Lives (share : Share) : JournalState → List Answered → JournalState → Type 0 where
  ended : (state : JournalState) → Lives share state [] state
  answered : (before after last : JournalState) (ask : Ask) (moment : ℕ) (answer : Answer) (rest : List Answered)
      → Decides share before ask moment answer after → Lives share after rest last
      → Lives share before (record { ask = ask; answer = answer } ∷ rest) last
  lost : (before after last : JournalState) (ask : Ask) (moment : ℕ) (answer : Answer) (rest : List Answered)
      → Decides share before ask moment answer after → Lives share after rest last → Lives share before rest last
  restarted : (before last : JournalState) (kept entries : List Entry) (rest : List Answered) → SettlesTo before kept
      → ((leaf : ℕ) → leaf < 2 ^ share.params.h → map_of entries leaf ≡ map_of kept leaf)
      → Lives share (settled_with entries) rest last → Lives share before rest last

-- the asks that were granted, in their order
abbrev pub if_granted : Answer → Ask → List Ask → List Ask
if_granted Granted ask asks = ask ∷ asks
if_granted (Refused why) ask asks = asks

abbrev pub granted_in : List Answered → List Ask
granted_in [] = []
granted_in (one ∷ rest) = if_granted one.answer one.ask (granted_in rest)

-- Two grants on one leaf are for one message; if both are of round two, for one randomizer and one digest; and if they
-- are of one round, they give the same masks.
pub record OneOpening (share : Share) (asks : List Ask) : Type 0 where
  pub message : (a b : Ask) → Contains asks a → Contains asks b → a.leaf ≡ b.leaf
      → message_id_bytes a.message ≡ message_id_bytes b.message
  pub pair : (a b : Ask) (x y : Second) → Contains asks a → Contains asks b → a.leaf ≡ b.leaf → a.second ≡ Some x
      → b.second ≡ Some y → (x.c ≡ y.c) × (x.digest ≡ y.digest)
  pub masks : (a b : Ask) → Contains asks a → Contains asks b → a.leaf ≡ b.leaf → is_some a.second ≡ is_some b.second
      → (i : ℕ) → mask_of share a i ≡ mask_of share b i
