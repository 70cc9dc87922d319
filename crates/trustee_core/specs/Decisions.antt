-- What a trustee decides: the tests that need no journal, in their order, and then the journal.
use Rattle.std.specs.Prelude.{◌≡◌, ◌≢◌, ◌<◌, ◌≤◌, ◌^◌, ℕ, None, Some, Contains, Result, Ok, Err, IfSome, length}
use Rattle.coalition_map.specs.Coalitions.{leaf_members}
use Rattle.lms_bytes.specs.declared.ask.Ask.{Ask}
use Rattle.lms_bytes.specs.declared.ask.Second.{Second}
use Rattle.mask_prf.specs.Masks.{check_tag_of}
use Rattle.opening_journal.specs.Entries.{JournalState}
use Rattle.opening_journal.specs.Opening.{Binds, Opens}
use Rattle.opening_journal.specs.declared.faults.Entered.{Entered}
use Rattle.opening_journal.specs.declared.faults.JournalFault.{JournalFault}
use Rattle.share_files.specs.declared.share.Share.{Share}
use Rattle.trustee_core.specs.declared.refusal.Refusal.{Refusal}
use Rattle.trustee_core.specs.declared.refusal.Refusal.TheVariants.{ForeignKey, NoSuchLeaf, NotMember, TooLong}
use Rattle.trustee_core.specs.declared.refusal.Refusal.TheVariants.{BadCheck, Journal}

-- this project's profile: a trustee answers for messages of at most 16,777,216 bytes
abbrev pub longest_message : ℕ
longest_message = 16777216

-- the ask is for a leaf of the trustee's own, of a message within the limit
pub record IsForLeaf (share : Share) (ask : Ask) : Type 0 where
  pub key : ask.key ≡ share.id
  pub leaf : ask.leaf < 2 ^ share.params.h
  pub member : Contains (leaf_members share.plan ask.leaf) share.member
  pub length : ask.message.length ≤ longest_message

-- the check tag is the trustee's own for this randomizer
abbrev pub HasTag : Share → Ask → Second → Type 0
HasTag share ask second = second.tag ≡ check_tag_of share.key share.id ask.leaf second.c

-- internal: the ask passes the tests that need no journal, and its randomizer and digest have n bytes
pub record PassesTests (share : Share) (ask : Ask) : Type 0 where
  pub own : IsForLeaf share ask
  pub tag : IfSome ask.second (HasTag share ask)
  pub c : IfSome ask.second (λ second. length second.c ≡ share.params.n)
  pub digest : IfSome ask.second (λ second. length second.digest ≡ share.params.n)

-- the first test that fails
pub data FailsTest (share : Share) (ask : Ask) : Refusal → Type 0 where
  foreign_key : ask.key ≢ share.id → FailsTest share ask ForeignKey
  no_such_leaf : ask.key ≡ share.id → 2 ^ share.params.h ≤ ask.leaf → FailsTest share ask NoSuchLeaf
  not_member : ask.key ≡ share.id → ask.leaf < 2 ^ share.params.h
      → (Contains (leaf_members share.plan ask.leaf) share.member → ⊥)
      → FailsTest share ask NotMember
  too_long : ask.key ≡ share.id → ask.leaf < 2 ^ share.params.h
      → Contains (leaf_members share.plan ask.leaf) share.member
      → longest_message < ask.message.length → FailsTest share ask (TooLong ask.message.length)
  bad_check : (second : Second) → IsForLeaf share ask → ask.second ≡ Some second
      → second.tag ≢ check_tag_of share.key share.id ask.leaf second.c → FailsTest share ask BadCheck

-- a grant, or why there is none
pub data Answer : Type 0 where
  Granted : Answer
  Refused : (why : Refusal) → Answer

-- the answer if the journal answers this
abbrev pub answer_of : Result Entered JournalFault → Answer
answer_of (Ok entered) = Granted
answer_of (Err fault) = Refused (Journal fault)

-- the answer of a decision
abbrev pub answer_in : {T : Type 0} → Result T Refusal → Answer
answer_in (Ok grant) = Granted
answer_in (Err why) = Refused why

-- what an ask does at a moment: the answer, and the journal after it
pub data Decides (share : Share) (before : JournalState) (ask : Ask) (moment : ℕ)
    : Answer → JournalState → Type 0 where
  tested : (why : Refusal) → FailsTest share ask why → Decides share before ask moment (Refused why) before
  first : (result : Result Entered JournalFault) (after : JournalState) → IsForLeaf share ask → ask.second ≡ None
      → Binds before ask.leaf ask.message result after → Decides share before ask moment (answer_of result) after
  second : (result : Result Entered JournalFault) (after : JournalState) (pair : Second) → IsForLeaf share ask
      → ask.second ≡ Some pair → HasTag share ask pair
      → Opens before ask.leaf ask.message pair.c pair.digest moment result after
      → Decides share before ask moment (answer_of result) after
