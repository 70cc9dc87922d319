-- The lives of a trustee with a book are lives of a trustee.
use Rattle.std.proofs.Common.{◌≡◌, ℕ, List, [], All, Option, refl, arith}
use Rattle.std.proofs.lemmas.List.Elements.{All-cons}
use Rattle.lms_bytes.specs.declared.ask.Ask.{Ask}
use Rattle.lms_bytes.specs.declared.message.MessageId.{MessageId}
use Rattle.opening_journal.specs.Opening.{settled_with}
use Rattle.opening_journal.specs.Entries.{JournalState}
use Rattle.share_files.specs.declared.share.Share.{Share}
use Rattle.trustee_core.specs.Lives.{Answered, Lives}
use Rattle.trustee_core.specs.Lives as lives
use Rattle.trustee_core.specs.Decisions.{Answer}
use Rattle.trustee_core.specs.Approvals.{BookAnswer, BookAnswered, BookDecides, BookLives, IsApproved, decided_in, if_decided}
use Rattle.trustee_core.specs.Approvals as book

-- an answer of one kind is none of the other, and says what it was
pub denied-never : (message : MessageId) (answer : Answer) → book.Denied message ≡ book.Decided answer → ⊥
denied-never message answer is = absurd (cc)

pub decided-is : (answer other : Answer) → book.Decided answer ≡ book.Decided other → answer ≡ other
decided-is answer other is = cc

-- lives with no answer, and then others
then : (share : Share) (before after last : JournalState) (none answers : List Answered) → none ≡ [] → Lives share before none after
    → Lives share after answers last → Lives share before answers last
then share before after last none answers is (lives.ended state) rest = rest
then share before after last none answers is (lives.answered first mid end ask moment answer more event lived) rest =
    absurd (cc)
then share before after last none answers is (lives.lost first mid end ask moment answer more event lived) rest =
    lives.lost first mid last ask moment answer answers event (then share mid end last more answers is lived rest)
then share before after last none answers is (lives.restarted first end kept entries more settles same lived) rest =
    lives.restarted first last kept entries answers settles same
    (then share (settled_with entries) end last more answers is lived rest)

pub decided_lives : (share : Share) (before last : JournalState) (answers : List BookAnswered)
    → BookLives share before answers last → Lives share before (decided_in answers) last
decided_lives share before last answers (book.ended state) = lives.ended state
decided_lives share before last answers (book.answered ids first mid end ask moment answer rest event lived) =
    step event (decided_lives share mid end rest lived)
  where
    step : {answer : BookAnswer} {mid : JournalState} → BookDecides share ids first ask moment answer mid
        → Lives share mid (decided_in rest) end → Lives share first (if_decided answer ask (decided_in rest)) end
    step (book.denied is) rest = rest
    step (book.decided answer mid is event) rest = lives.answered first mid end ask moment answer _ event rest
decided_lives share before last answers (book.between first mid end rest lived more) =
    then share first mid end [] (decided_in rest) refl lived (decided_lives share mid end rest more)

approved : (share : Share) (ids : Option (List (List ℕ))) (before after : JournalState) (ask : Ask) (moment : ℕ) (answer : BookAnswer)
    → BookDecides share ids before ask moment answer after → IsApproved (record { ids = ids; ask = ask; answer = answer })
approved share ids before after ask moment answer (book.denied is) =
    ((λ same. absurd (cc)), (λ message same. (is, cc)))
approved share ids before after ask moment answer (book.decided given mid is event) =
    ((λ same. is), (λ message same. absurd (cc)))

pub all_approved : (share : Share) (before last : JournalState) (answers : List BookAnswered)
    → BookLives share before answers last → All IsApproved answers
all_approved share before last answers (book.ended state) = λ k d inside. absurd (omega arith)
all_approved share before last answers (book.answered ids first mid end ask moment answer rest event lived) =
    All-cons IsApproved _ rest (approved share ids first mid ask moment answer event) (all_approved share mid end rest lived)
all_approved share before last answers (book.between first mid end rest lived more) = all_approved share mid end rest more
