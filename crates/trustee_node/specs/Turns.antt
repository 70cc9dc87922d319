-- Turns of a trustee under a lock: what each ask met, how it was answered, and what it added.
use Rattle.std.specs.Prelude.{◌≡◌, ◌<◌, ◌≤◌, ◌+◌, ◌-◌, ◌^◌, ◌==◌, ◌++◌, ℕ, Bool, true, false, List, [], ◌∷◌, length}
use Rattle.std.specs.Prelude.{All, Contains}
use Rattle.std.specs.Prelude.{Option, IfSome, IsSomeAnd, IsTrue, if◌then◌else◌}
use Rattle.std.specs.List.{flat_map, sum_by}
use Rattle.opening_journal.specs.declared.faults.JournalFault.TheVariants as journal
use mathlib.Core.List.{IsPrefix}
use Rattle.trustee_core.specs.Approvals.{BookAnswer, BookDecides, Decided, Denied, IsDenied}
use Rattle.lms_bytes.specs.declared.ask.Ask.{Ask}
use Rattle.opening_journal.specs.Opening.{settled_with}
use Rattle.opening_journal.specs.declared.entry.Entry.{Entry}
use Rattle.share_files.specs.declared.share.Share.{Share}
use Rattle.trustee_core.specs.Codes.{refusal_code}
use Rattle.trustee_core.specs.Decisions.{Granted, HasTag, IsForLeaf, Refused}
use Rattle.trustee_core.specs.Notes.{entries_in, entry_of}
use Rattle.trustee_core.specs.declared.kept.TrusteeName.{TrusteeName}
use Rattle.trustee_core.specs.declared.note.Note.{Note}
use Rattle.trustee_core.specs.declared.note.Note.TheVariants.{Made, Doubted}
use Rattle.trustee_core.specs.declared.refusal.Refusal.TheVariants.{Journal}
use Rattle.turn_lock.specs.Lock.{Lock}
use Rattle.turn_lock.specs.Pass.{SamePass, Seen}

-- what comes of an ask: it is decided in a turn, or the pass has no more turns
pub data Outcome : Type 0 where
  InTurn : (answer : BookAnswer) → Outcome
  NoTurn : Outcome

-- one ask: when it was asked, the entries that it met, what came of it, and the entries that it added
pub record Turn : Type 0 where
  pub ask : Ask
  pub moment : ℕ
  pub seen : List Entry
  pub outcome : Outcome
  pub added : List Entry

-- the ask goes to the journal: no book denies it, and it passes the tests that need no journal
pub record ReachesJournal (share : Share) (ids : Option (List (List ℕ))) (ask : Ask) : Type 0 where
  pub approved : IsDenied ids ask → ⊥
  pub own : IsForLeaf share ask
  pub tag : IfSome ask.second (HasTag share ask)

-- What comes of an ask that meets these entries, and what it adds: what is decided with no entry in doubt; or a fault
-- of the disk, a damaged slot or a worn pass, in which case nothing is added
pub data Answers (share : Share) (ids : Option (List (List ℕ))) (seen : List Entry) (ask : Ask) (moment : ℕ)
    : Outcome → List Entry → Type 0 where
  step : (answer : BookAnswer) (added : List Entry)
      → BookDecides share ids (settled_with seen) ask moment answer (settled_with (seen ++ added))
      → Answers share ids seen ask moment (InTurn answer) added
  device : ReachesJournal share ids ask
      → Answers share ids seen ask moment (InTurn (Decided (Refused (Journal journal.Device)))) []
  torn : (leaf a b : ℕ) → ReachesJournal share ids ask
      → Answers share ids seen ask moment (InTurn (Decided (Refused (Journal (journal.Damaged leaf a b))))) []
  worn : Answers share ids seen ask moment NoTurn []

-- From one log to another that goes on from it: each turn met a log that goes on from what was there before, and what
-- it added stands just after that
pub data ServedTurns (share : Share) (ids : Option (List (List ℕ))) : List Entry → List Turn → List Entry → Type 0 where
  ended : (log last : List Entry) → IsPrefix log last → ServedTurns share ids log [] last
  next : (log last : List Entry) (turn : Turn) (rest : List Turn) → IsPrefix log turn.seen
      → Answers share ids turn.seen turn.ask turn.moment turn.outcome turn.added
      → ServedTurns share ids (turn.seen ++ turn.added) rest last → ServedTurns share ids log (turn ∷ rest) last

-- this project's profile: the code of a reply, 0 for a grant, a refusal's number, 12 for a message that is not approved
-- and 11 for a worn pass
abbrev pub code_of : Outcome → ℕ
code_of (InTurn (Decided Granted)) = 0
code_of (InTurn (Decided (Refused why))) = refusal_code why
code_of (InTurn (Denied message)) = 12
code_of NoTurn = 11

-- there was no turn, since the pass is worn
abbrev pub is_worn : Outcome → Bool
is_worn (InTurn answer) = false
is_worn NoTurn = true

-- 1 if the reply has this code, and 0 otherwise
abbrev pub is_code : ℕ → Outcome → ℕ
is_code code outcome = if code_of outcome == code then 1 else 0

-- how many of these turns have a reply of this code
abbrev pub with_code : ℕ → List Turn → ℕ
with_code code turns = sum_by (λ (turn : Turn). is_code code turn.outcome) turns

-- what they added
abbrev pub added_by : List Turn → List Entry
added_by turns = flat_map (λ (turn : Turn). turn.added) turns

-- the disk of the lock's trustee tells its content
abbrev pub TellsDisk : Option TrusteeName → Type 0
TellsDisk name = IsSomeAnd name (λ name. IsTrue name.told)

-- the same, and the disk is steady too
abbrev pub HasSteadyDisk : Option TrusteeName → Type 0
HasSteadyDisk name = IsSomeAnd name (λ name. IsTrue name.steady × IsTrue name.told)

-- the pass is of this lock, around the trustee of this share, and holds no turn
abbrev pub IsIdle : Lock Note TrusteeName → Share → Seen Note TrusteeName → Type 0
IsIdle lock share pass =
    (pass.lock ≡ lock) × (pass.in_turn ≡ false) × IfSome pass.name (λ name. name.share ≡ share)

-- The tickets of these turns: one for each ask that is decided, and one or none for one that is not. An ask is left
-- undecided exactly when the pass is worn.
pub record Draws (old new : Seen Note TrusteeName) (turns : List Turn) : Type 0 where
  pub most : new.draws ≤ old.draws + length turns
  pub least : old.draws + length turns ≤ new.draws + with_code 11 turns
  pub greatest : old.greatest ≤ new.greatest
  pub fresh : new.greatest < 2 ^ 62 → with_code 11 turns ≡ 0
  pub worn : 2 ^ 62 ≤ old.greatest → with_code 11 turns ≡ length turns

-- The faults of these turns: those of the disk are rises of the pass's own, and a steady disk that tells its content
-- has none. No slot is damaged before the first fault, and none of a disk that tells its content.
pub record Faults (old new : Seen Note TrusteeName) (turns : List Turn) : Type 0 where
  pub rises : new.floor < 2 ^ 64 - 1 → old.rises + with_code 6 turns ≤ new.rises
  pub steady : HasSteadyDisk new.name → with_code 6 turns ≡ 0
  pub first : new.floor ≡ 0 → with_code 7 turns ≡ 0
  pub told : TellsDisk new.name → with_code 7 turns ≡ 0

-- One of these turns asked for the entry, and its ask goes to the journal: no book denies it, and it passes the tests
-- that need no journal. What a denied ask names, or one that fails a test, is not asked for.
pub record IsAsked (share : Share) (ids : Option (List (List ℕ))) (turns : List Turn) (entry : Entry) : Type 0 where
  pub turn : Turn
  pub is_one : Contains turns turn
  pub reaches : ReachesJournal share ids turn.ask
  pub entry_is : entry_of turn.ask turn.moment ≡ entry

-- A note that these turns may have added to this log: an entry that one of them asked for was made or is in doubt, or
-- one that the log has in doubt turned out to be made.
pub data IsNoteOf (share : Share) (ids : Option (List (List ℕ))) (log : List Note) (turns : List Turn)
    : Note → Type 0 where
  asked_made : (entry : Entry) → IsAsked share ids turns entry → IsNoteOf share ids log turns (Made entry)
  asked_doubted : (entry : Entry) → IsAsked share ids turns entry → IsNoteOf share ids log turns (Doubted entry)
  turned_out : (entry : Entry) → Contains log (Doubted entry) → IsNoteOf share ids log turns (Made entry)

-- What these turns noted, whatever the number of faults. The log goes on from the one before.
pub record NotedBy (share : Share) (ids : Option (List (List ℕ))) (old new : Seen Note TrusteeName)
    (turns : List Turn) : Type 0 where
  pub noted : List Note
  pub are : new.own ≡ old.own ++ noted
  pub each : All (IsNoteOf share ids new.log turns) noted
  pub log : IsPrefix old.log new.log

-- What became of a pass in these turns. With no fault they added what their answers say, and nothing else.
pub record Serves (share : Share) (ids : Option (List (List ℕ))) (old new : Seen Note TrusteeName) (turns : List Turn)
    : Type 0 where
  pub served : ServedTurns share ids (entries_in old.log) turns (entries_in new.log)
  pub floor : old.floor ≤ new.floor
  pub own : new.floor ≡ 0 → entries_in new.own ≡ entries_in old.own ++ added_by turns
  pub notes : NotedBy share ids old new turns
  pub draws : Draws old new turns
  pub faults : Faults old new turns
  pub same : SamePass old new
  pub joined : new.joined ≡ old.joined
  pub idle : new.in_turn ≡ false
