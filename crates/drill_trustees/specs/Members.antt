-- internal: What trustees of a drill keep for leaves, and what an ask does to that.
use Rattle.std.specs.Prelude.{◌≡◌, ◌≢◌, ◌⊎◌, ◌<◌, ℕ, Some, None, Result, Ok, Err}
use Rattle.opening_journal.specs.declared.faults.JournalFault.TheVariants as journal
use Rattle.disk_trait.specs.MemDisk.{MemState}
use Rattle.lms_bytes.specs.MessageId.{message_id_bytes}
use Rattle.lms_bytes.specs.declared.ask.Ask.{Ask}
use Rattle.lms_bytes.specs.declared.ask.Second.{Second}
use Rattle.opening_journal.specs.Entries.{IsBound, IsFree, IsOpened, LeafState, map_of, state_in_file}
use Rattle.opening_journal.specs.Journal.{state_of}
use Rattle.opening_journal.specs.Loading.{IsJournalFile}
use Rattle.share_files.specs.declared.share.Share.{Share}
use Rattle.trustee_core.specs.Decisions.{HasTag, IsForLeaf}
use Rattle.trustee_core.specs.Grants.{ask_of}
use Rattle.trustee_core.specs.Trustee.{journal_header, journal_of}
use Rattle.trustee_core.specs.declared.grant.Grant.{Grant}
use Rattle.trustee_core.specs.declared.refusal.Refusal.{Refusal}
use Rattle.trustee_core.specs.declared.refusal.Refusal.TheVariants.{ForeignKey, NoSuchLeaf, NotMember, TooLong}
use Rattle.trustee_core.specs.declared.refusal.Refusal.TheVariants.{BadCheck, Journal}
use Rattle.drill_trustees.specs.declared.member.Answer.{Answer}
use Rattle.drill_trustees.specs.declared.member.Answer.TheVariants.{Granted, Refused, Stopped}
use Rattle.drill_trustees.specs.declared.member.Member.{Member}

-- what a trustee keeps for leaf q
abbrev pub leaf_in : Member → ℕ → LeafState
leaf_in member q = map_of (state_of (journal_of member.trustee)).entries q

-- the leaf of an ask before it and after it, if it is the first ask of its round
abbrev pub state_before : Ask → LeafState
state_before ask = elim ask.second [ None ↦ IsFree | Some second ↦ IsBound (message_id_bytes ask.message) ]

abbrev pub state_after : Ask → LeafState
state_after ask = elim ask.second [
  | None ↦ IsBound (message_id_bytes ask.message)
  | Some second ↦ IsOpened (message_id_bytes ask.message) second.c second.digest 0
]

-- the ask passes the tests, and its leaf is as before it or as after it
pub record MayAsk (share : Share) (leaves : ℕ → LeafState) (ask : Ask) : Type 0 where
  pub for_leaf : IsForLeaf share ask
  pub tag : (second : Second) → ask.second ≡ Some second → HasTag share ask second
  pub state : (leaves ask.leaf ≡ state_before ask) ⊎ (leaves ask.leaf ≡ state_after ask)

-- leaf q is this, and the others are as they were
pub record Sets (old new : ℕ → LeafState) (q : ℕ) (state : LeafState) : Type 0 where
  pub here : new q ≡ state
  pub others : (other : ℕ) → other < 32 → other ≢ q → new other ≡ old other

-- all leaves are as they were
abbrev pub SameLeaves : (ℕ → LeafState) → (ℕ → LeafState) → Type 0
SameLeaves old new = (q : ℕ) → q < 32 → new q ≡ old q

-- what an ask that may be put does to the leaves if the disk may stop: it is not refused
abbrev pub CutSets : (ℕ → LeafState) → (ℕ → LeafState) → Ask → Answer → Type 0
CutSets old new ask (Granted grant) = (ask_of grant ≡ ask) × Sets old new ask.leaf (state_after ask)
CutSets old new ask Refused = ⊥
CutSets old new ask Stopped =
    Sets old new ask.leaf (state_before ask) ⊎ Sets old new ask.leaf (state_after ask)

-- what became of an ask, by the decision on it
abbrev pub answer_to : Result Grant Refusal → Answer
answer_to (Ok grant) = Granted grant
answer_to (Err ForeignKey) = Refused
answer_to (Err NoSuchLeaf) = Refused
answer_to (Err NotMember) = Refused
answer_to (Err (TooLong got)) = Refused
answer_to (Err BadCheck) = Refused
answer_to (Err (Journal journal.Device)) = Stopped
answer_to (Err (Journal (journal.Damaged leaf a b))) = Refused
answer_to (Err (Journal journal.NotBound)) = Refused
answer_to (Err (Journal (journal.Spent kept))) = Refused
answer_to (Err (Journal (journal.OtherDigest c digest))) = Refused

-- the disk holds the file of a trustee's journal, which says about each leaf what the trustee keeps
pub record HasJournal (member : Member) (disk : MemState) : Type 0 where
  pub file : IsJournalFile (journal_header member.share) 32 disk.bytes
  pub leaves : (q : ℕ) → q < 32 → state_in_file 32 disk.bytes q ≡ leaf_in member q
