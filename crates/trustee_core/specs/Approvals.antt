-- What a trustee with a book decides.
use Rattle.std.specs.Prelude.{◌≡◌, ℕ, List, [], ◌∷◌, Option, None, Some, Result, Ok, Err, false}
use Rattle.lms_bytes.specs.MessageId.{message_id_bytes}
use Rattle.lms_bytes.specs.declared.ask.Ask.{Ask}
use Rattle.lms_bytes.specs.declared.message.MessageId.{MessageId}
use Rattle.opening_journal.specs.Entries.{JournalState}
use Rattle.share_files.specs.declared.share.Share.{Share}
use Rattle.trustee_core.specs.Decisions.{Answer, Decides, Granted, Refused}
use Rattle.trustee_core.specs.Lives.{Answered, Lives}
use Rattle.trustee_core.specs.declared.refusal.Refusal.{Refusal}
use Rattle.trustee_core.specs.Approved.{is_in}
use Rattle.trustee_core.specs.declared.denial.Denial.{Denial}
use Rattle.trustee_core.specs.declared.denial.Denial.TheVariants as denial

-- there is a book, the ask is of round one, and its message is not among the book's ids
abbrev pub IsDenied : Option (List (List ℕ)) → Ask → Type 0
IsDenied None ask = ⊥
IsDenied (Some ids) ask = (ask.second ≡ None) × (is_in ids (message_id_bytes ask.message) ≡ false)

-- a denial, which names the message, or what the trustee answers
pub data BookAnswer : Type 0 where
  Denied : (message : MessageId) → BookAnswer
  Decided : (answer : Answer) → BookAnswer

-- what an ask does at a moment: it is denied, and nothing changes, or is decided on as without a book
pub data BookDecides (share : Share) (ids : Option (List (List ℕ))) (before : JournalState) (ask : Ask) (moment : ℕ)
    : BookAnswer → JournalState → Type 0 where
  denied : IsDenied ids ask → BookDecides share ids before ask moment (Denied ask.message) before
  decided : (answer : Answer) (after : JournalState) → (IsDenied ids ask → ⊥)
      → Decides share before ask moment answer after → BookDecides share ids before ask moment (Decided answer) after

-- the answer of a call
abbrev pub book_answer_in : {T : Type 0} → Result T Denial → BookAnswer
book_answer_in (Ok grant) = Decided Granted
book_answer_in (Err (denial.NotApproved message)) = Denied message
book_answer_in (Err (denial.Core why)) = Decided (Refused why)

-- a decision as the answer of a trustee with a book
abbrev pub as_denial : {T : Type 0} → Result T Refusal → Result T Denial
as_denial (Ok grant) = Ok grant
as_denial (Err why) = Err (denial.Core why)

-- an ask with the book that it met, and what it was answered
pub record BookAnswered : Type 0 where
  pub ids : Option (List (List ℕ))
  pub ask : Ask
  pub answer : BookAnswer

-- Events from one state of the journal to another, as in the lives of a trustee without a book. A denial changes
-- nothing.
pub data BookLives (share : Share) : JournalState → List BookAnswered → JournalState → Type 0 where
  ended : (state : JournalState) → BookLives share state [] state
  answered : (ids : Option (List (List ℕ))) (before after last : JournalState) (ask : Ask) (moment : ℕ)
      (answer : BookAnswer) (rest : List BookAnswered) → BookDecides share ids before ask moment answer after
      → BookLives share after rest last
      → BookLives share before (record { ids = ids; ask = ask; answer = answer } ∷ rest) last
  between : (before after last : JournalState) (rest : List BookAnswered) → Lives share before [] after
      → BookLives share after rest last → BookLives share before rest last

-- the answers to asks that were not denied
abbrev pub if_decided : BookAnswer → Ask → List Answered → List Answered
if_decided (Denied message) ask answers = answers
if_decided (Decided answer) ask answers = record { ask = ask; answer = answer } ∷ answers

abbrev pub decided_in : List BookAnswered → List Answered
decided_in [] = []
decided_in (one ∷ rest) = if_decided one.answer one.ask (decided_in rest)

-- a grant of round one is for an id of the book, if there is a book; a denial is of an id that is not in it
abbrev pub IsApproved : BookAnswered → Type 0
IsApproved one = (one.answer ≡ Decided Granted → IsDenied one.ids one.ask → ⊥)
    × ((message : MessageId) → one.answer ≡ Denied message → IsDenied one.ids one.ask × (message ≡ one.ask.message))
