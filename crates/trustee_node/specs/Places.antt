-- Where turns stand in a log.
use Rattle.std.specs.Prelude.{◌≡◌, ◌≤◌, ◌<◌, ◌^◌, ◌+◌, ◌++◌, ℕ, List, [], ◌∷◌, All, length, take, Option}
use mathlib.Core.List.{IsPrefix}
use Rattle.trustee_core.specs.Approvals.{Decided, Denied}
use Rattle.lms_bytes.specs.declared.ask.Ask.{Ask}
use Rattle.opening_journal.specs.Entries.{IsLegalList, JournalState, map_of}
use Rattle.opening_journal.specs.Opening.{SettlesTo}
use Rattle.opening_journal.specs.declared.entry.Entry.{Entry}
use Rattle.share_files.specs.declared.share.Share.{Share}
use Rattle.trustee_core.specs.Decisions.{Granted, Refused}
use Rattle.trustee_node.specs.Turns.{InTurn, NoTurn, Outcome, ServedTurns, Turn}

-- the turn met the first entries of the log, at least `least` of them, and what it added stands just after them
pub record StandsIn (log : List Entry) (least : ℕ) (turn : Turn) : Type 0 where
  pub later : least ≤ length turn.seen
  pub seen : take (length turn.seen) log ≡ turn.seen
  pub added : take (length turn.seen + length turn.added) log ≡ turn.seen ++ turn.added

-- the turns stand in the log one after another
abbrev pub StandInLog : List Entry → ℕ → List Turn → Type 0
StandInLog log least [] = least ≤ length log
StandInLog log least (turn ∷ turns) =
    StandsIn log least turn × StandInLog log (length turn.seen + length turn.added) turns

-- the turns stand in a log that this one goes on from
pub record StandUnder (share : Share) (last : List Entry) (turns : List Turn) : Type 0 where
  pub ids : Option (List (List ℕ))
  pub log : List Entry
  pub end : List Entry
  pub served : ServedTurns share ids log turns end
  pub begins : IsPrefix end last

-- these asks, after this one if it was granted
abbrev pub if_granted : Outcome → Ask → List Ask → List Ask
if_granted (InTurn (Decided Granted)) ask asks = ask ∷ asks
if_granted (InTurn (Decided (Refused why))) ask asks = asks
if_granted (InTurn (Denied message)) ask asks = asks
if_granted NoTurn ask asks = asks

-- the asks of these turns that were granted
abbrev pub granted_in : List Turn → List Ask
granted_in [] = []
granted_in (turn ∷ turns) = if_granted turn.outcome turn.ask (granted_in turns)

-- those of several passes
abbrev pub granted_by : List (List Turn) → List Ask
granted_by [] = []
granted_by (turns ∷ others) = granted_in turns ++ granted_by others

-- the entries may follow one another, whether the one in doubt was made or was not
abbrev pub IsLegal : JournalState → Type 0
IsLegal state = (entries : List Entry) → SettlesTo state entries → IsLegalList entries

-- Runs of a journal's trustee, one after another: each begins with entries that make of each leaf what the journal kept
-- of it, and its passes stand under the entries that it ends with.
pub data Runs (share : Share) : JournalState → List (List Turn) → JournalState → Type 0 where
  stopped : (state : JournalState) → Runs share state [] state
  run : (before after last : JournalState) (kept entries : List Entry) (passes rest : List (List Turn))
      → SettlesTo before kept → ((leaf : ℕ) → leaf < 2 ^ share.params.h → map_of entries leaf ≡ map_of kept leaf)
      → IsPrefix entries after.entries → IsLegal after → All (StandUnder share after.entries) passes
      → Runs share after rest last → Runs share before (passes ++ rest) last
