-- The answers of a leaf.
use Rattle.std.proofs.Common.{◌≡◌, ℕ, List, Result, Ok, Err, None, take, drop, sym, subst}
use Rattle.lms_bytes.specs.MessageId.{message_id_bytes}
use Rattle.lms_bytes.specs.declared.message.MessageId.{MessageId}
use Rattle.opening_journal.specs.Answers.{AnswersAs, AsksFor, BindsAs, IsOldOrSpent, IsSamePair, Makes, OpensAs, Settles}
use Rattle.opening_journal.specs.Entries.{IsOpened, JournalState, LeafState, leaf_of, map_of}
use Rattle.opening_journal.specs.Opening.{AnswersFor, Binds, Opens, damaged, kept, made, not_bound, other_digest, settled_with, spent, unsettled, unwritten}
use Rattle.opening_journal.specs.declared.entry.Entry.{Entry}
use Rattle.opening_journal.specs.declared.entry.Entry.TheVariants.{Bound, Opened}
use Rattle.opening_journal.specs.declared.faults.Entered.{Entered}
use Rattle.opening_journal.specs.declared.faults.Entered.TheVariants.{New, Old}
use Rattle.opening_journal.specs.declared.faults.JournalFault.{JournalFault}
use Rattle.opening_journal.specs.declared.faults.JournalFault.TheVariants.{Device, Damaged, NotBound, Spent, OtherDigest}

-- a leaf that answers for the message that it is bound to
pub binds-as : (first : List ℕ) (message : MessageId) (state : LeafState) (result : Result Entered JournalFault) → AnswersFor first state → IsOldOrSpent first message result → BindsAs message state result
binds-as first message state (Ok New) answers is = absurd is
binds-as first message state (Ok Old) answers is = subst (λ (m : List ℕ). AnswersFor m state) is answers
binds-as first message state (Err (Spent other)) answers is = (subst (λ (m : List ℕ). AnswersFor m state) (sym is.0) answers, is.1)
binds-as first message state (Err Device) answers is = absurd is
binds-as first message state (Err (Damaged leaf a b)) answers is = absurd is
binds-as first message state (Err NotBound) answers is = absurd is
binds-as first message state (Err (OtherDigest c digest)) answers is = absurd is

-- one that is bound to another message and is asked to be opened
pub opens-spent : (first : List ℕ) (message : MessageId) (c digest : List ℕ) (state : LeafState) (fault : JournalFault) → AnswersFor first state → IsOldOrSpent first message (Err fault) → OpensAs message c digest state (Err fault)
opens-spent first message c digest state (Spent other) answers is = (subst (λ (m : List ℕ). AnswersFor m state) (sym is.0) answers, is.1)
opens-spent first message c digest state Device answers is = absurd is
opens-spent first message c digest state (Damaged leaf a b) answers is = absurd is
opens-spent first message c digest state NotBound answers is = absurd is
opens-spent first message c digest state (OtherDigest x y) answers is = absurd is

-- one that is bound to the message
pub is-old : (first : List ℕ) (message : MessageId) (entered : Entered) → IsOldOrSpent first message (Ok entered) → first ≡ message_id_bytes message
is-old first message New is = absurd is
is-old first message Old is = is

-- one that was opened for it
pub opens-pair : (n : ℕ) (first body : List ℕ) (then : ℕ) (message : MessageId) (c digest : List ℕ) (result : Result Entered JournalFault) → first ≡ message_id_bytes message → IsSamePair n body c digest result
    → OpensAs message c digest (IsOpened first (take n body) (take n (drop 32 body)) then) result
opens-pair n first body then message c digest (Ok New) same is = absurd is
opens-pair n first body then message c digest (Ok Old) same is = (then, λ i. IsOpened (same i) (is.0 i) (is.1 i) then)
opens-pair n first body then message c digest (Err (OtherDigest x y)) same is = (then, (λ i. IsOpened (same i) (sym is.0 i) (sym is.1 i) then), is.2)
opens-pair n first body then message c digest (Err Device) same is = absurd is
opens-pair n first body then message c digest (Err (Damaged leaf a b)) same is = absurd is
opens-pair n first body then message c digest (Err NotBound) same is = absurd is
opens-pair n first body then message c digest (Err (Spent other)) same is = absurd is

-- a state with no doubt
settled-same : (after : JournalState) → after.doubt ≡ None → settled_with after.entries ≡ after
settled-same after sure = λ i. record { entries = after.entries; doubt = sym sure i }

module _ (before after : JournalState) (leaf : ℕ) (message : MessageId) where
  binds-unsettled : (fault : JournalFault) → Settles before (Err fault) after → Binds before leaf message (Err fault) after
  binds-unsettled Device settles = subst (Binds before leaf message (Err Device)) (sym settles.1) (unsettled settles.0)
  binds-unsettled (Damaged torn a b) settles =
      subst (Binds before leaf message (Err (Damaged torn a b))) (sym settles.3)
      (subst (λ (k : ℕ). Binds before leaf message (Err (Damaged k a b)) before) (sym settles.2) (damaged settles.0 a b settles.1 settles.4))
  binds-unsettled NotBound settles = absurd settles
  binds-unsettled (Spent other) settles = absurd settles
  binds-unsettled (OtherDigest c digest) settles = absurd settles

  binds-old : Settles before (Ok tt) after → BindsAs message (map_of after.entries leaf) (Ok Old) → Binds before leaf message (Ok Old) after
  binds-old settles answer = subst (Binds before leaf message (Ok Old)) (settled-same after settles.0) (kept after.entries settles.1 answer)

  binds-refused : (fault : JournalFault) → Settles before (Ok tt) after → BindsAs message (map_of after.entries leaf) (Err fault) → Binds before leaf message (Err fault) after
  binds-refused (Spent other) settles answer = subst (Binds before leaf message (Err (Spent other))) (settled-same after settles.0) (spent after.entries other settles.1 answer.0 answer.1)
  binds-refused Device settles answer = absurd answer
  binds-refused (Damaged torn a b) settles answer = absurd answer
  binds-refused NotBound settles answer = absurd answer
  binds-refused (OtherDigest c digest) settles answer = absurd answer

  binds-put : (new : JournalState) (result : Result Entered JournalFault) → Settles before (Ok tt) after → BindsAs message (map_of after.entries leaf) (Ok New) → Makes after.entries (Bound leaf message) result new → Binds before leaf message result new
  binds-put new (Ok New) settles free makes = subst (Binds before leaf message (Ok New)) (sym makes) (made after.entries settles.1 free)
  binds-put new (Ok Old) settles free makes = absurd makes
  binds-put new (Err Device) settles free makes = subst (Binds before leaf message (Err Device)) (sym makes) (unwritten after.entries settles.1 free)
  binds-put new (Err (Damaged torn a b)) settles free makes = absurd makes
  binds-put new (Err NotBound) settles free makes = absurd makes
  binds-put new (Err (Spent other)) settles free makes = absurd makes
  binds-put new (Err (OtherDigest c digest)) settles free makes = absurd makes

module _ (before after : JournalState) (leaf : ℕ) (message : MessageId) (c digest : List ℕ) (moment : ℕ) where
  opens-unsettled : (fault : JournalFault) → Settles before (Err fault) after → Opens before leaf message c digest moment (Err fault) after
  opens-unsettled Device settles = subst (Opens before leaf message c digest moment (Err Device)) (sym settles.1) (unsettled settles.0)
  opens-unsettled (Damaged torn a b) settles =
      subst (Opens before leaf message c digest moment (Err (Damaged torn a b))) (sym settles.3)
      (subst (λ (k : ℕ). Opens before leaf message c digest moment (Err (Damaged k a b)) before) (sym settles.2) (damaged settles.0 a b settles.1 settles.4))
  opens-unsettled NotBound settles = absurd settles
  opens-unsettled (Spent other) settles = absurd settles
  opens-unsettled (OtherDigest x y) settles = absurd settles

  opens-old : Settles before (Ok tt) after → OpensAs message c digest (map_of after.entries leaf) (Ok Old) → Opens before leaf message c digest moment (Ok Old) after
  opens-old settles answer = subst (Opens before leaf message c digest moment (Ok Old)) (settled-same after settles.0) (kept after.entries answer.0 settles.1 answer.1)

  opens-refused : (fault : JournalFault) → Settles before (Ok tt) after → OpensAs message c digest (map_of after.entries leaf) (Err fault) → Opens before leaf message c digest moment (Err fault) after
  opens-refused NotBound settles answer = subst (Opens before leaf message c digest moment (Err NotBound)) (settled-same after settles.0) (not_bound after.entries settles.1 answer)
  opens-refused (Spent other) settles answer = subst (Opens before leaf message c digest moment (Err (Spent other))) (settled-same after settles.0) (spent after.entries other settles.1 answer.0 answer.1)
  opens-refused (OtherDigest x y) settles answer = subst (Opens before leaf message c digest moment (Err (OtherDigest x y))) (settled-same after settles.0) (other_digest after.entries x y answer.0 settles.1 answer.1 answer.2)
  opens-refused Device settles answer = absurd answer
  opens-refused (Damaged torn a b) settles answer = absurd answer

  opens-put : (new : JournalState) (result : Result Entered JournalFault) → Settles before (Ok tt) after → OpensAs message c digest (map_of after.entries leaf) (Ok New) → Makes after.entries (Opened leaf message c digest moment) result new → Opens before leaf message c digest moment result new
  opens-put new (Ok New) settles bound_is makes = subst (Opens before leaf message c digest moment (Ok New)) (sym makes) (made after.entries settles.1 bound_is)
  opens-put new (Ok Old) settles bound_is makes = absurd makes
  opens-put new (Err Device) settles bound_is makes = subst (Opens before leaf message c digest moment (Err Device)) (sym makes) (unwritten after.entries settles.1 bound_is)
  opens-put new (Err (Damaged torn a b)) settles bound_is makes = absurd makes
  opens-put new (Err NotBound) settles bound_is makes = absurd makes
  opens-put new (Err (Spent other)) settles bound_is makes = absurd makes
  opens-put new (Err (OtherDigest x y)) settles bound_is makes = absurd makes

-- either of them
module _ (before after : JournalState) where
  pub asks-unsettled : (entry : Entry) (fault : JournalFault) → Settles before (Err fault) after → AsksFor before entry (Err fault) after
  asks-unsettled (Bound leaf message) = binds-unsettled before after leaf message
  asks-unsettled (Opened leaf message c digest moment) = opens-unsettled before after leaf message c digest moment

  pub asks-old : (entry : Entry) → Settles before (Ok tt) after → AnswersAs entry (map_of after.entries (leaf_of entry)) (Ok Old) → AsksFor before entry (Ok Old) after
  asks-old (Bound leaf message) = binds-old before after leaf message
  asks-old (Opened leaf message c digest moment) = opens-old before after leaf message c digest moment

  pub asks-refused : (entry : Entry) (fault : JournalFault) → Settles before (Ok tt) after → AnswersAs entry (map_of after.entries (leaf_of entry)) (Err fault) → AsksFor before entry (Err fault) after
  asks-refused (Bound leaf message) = binds-refused before after leaf message
  asks-refused (Opened leaf message c digest moment) = opens-refused before after leaf message c digest moment

  pub asks-put : (entry : Entry) (new : JournalState) (result : Result Entered JournalFault) → Settles before (Ok tt) after
      → AnswersAs entry (map_of after.entries (leaf_of entry)) (Ok New) → Makes after.entries entry result new → AsksFor before entry result new
  asks-put (Bound leaf message) = binds-put before after leaf message
  asks-put (Opened leaf message c digest moment) = opens-put before after leaf message c digest moment
