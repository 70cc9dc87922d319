-- Replies: what is written for an ask.
use Rattle.std.specs.Prelude.{◌≡◌, ◌≤◌, ◌+◌, ◌*◌, ◌++◌, ◌∷◌, [], ⊤, ℕ, List, length, replicate, Option, Some, None}
use Rattle.std.specs.Prelude.{Ok, Err, IfOk, IfSome}
use Rattle.std.specs.List.{flat_map}
use Rattle.opening_journal.specs.declared.faults.JournalFault.TheVariants as journal
use Rattle.trustee_core.specs.Approvals.{Decided, Denied, book_answer_in}
use Rattle.trustee_core.specs.declared.denial.Denial.TheVariants.{NotApproved, Core}
use Rattle.lms_bytes.specs.Bytes.{joined}
use Rattle.lms_bytes.specs.MessageId.{message_id_bytes}
use Rattle.lms_bytes.specs.declared.ask.Ask.{Ask}
use Rattle.lms_bytes.specs.declared.ask.ReplyHead.{ReplyHead}
use Rattle.lms_bytes.specs.declared.ask.Second.{Second}
use Rattle.lms_bytes.specs.declared.params.Params.{Params}
use Rattle.opening_journal.specs.declared.entry.Entry.{Entry}
use Rattle.round_frames.specs.Replies.{reply_front}
use Rattle.share_files.specs.declared.share.Share.{Share}
use Rattle.trustee_core.specs.Decisions.{Granted, Refused}
use Rattle.trustee_core.specs.Grants.{ask_of, mask_of, masks_of}
use Rattle.trustee_core.specs.declared.kept.TrusteeName.{TrusteeName}
use Rattle.trustee_core.specs.declared.note.Note.{Note}
use Rattle.trustee_core.specs.declared.refusal.Refusal.{Refusal}
use Rattle.trustee_core.specs.declared.refusal.Refusal.TheVariants.{ForeignKey, NoSuchLeaf, NotMember, TooLong}
use Rattle.trustee_core.specs.declared.refusal.Refusal.TheVariants.{BadCheck, Journal}
use Rattle.turn_lock.specs.Pass.{Seen}
use Rattle.trustee_node.specs.Turns.{InTurn, NoTurn, Outcome, Serves, Turn, code_of}
use Rattle.trustee_node.specs.declared.turn.Answer.{Answer}
use Rattle.trustee_node.specs.declared.turn.Answer.TheVariants as answer

-- the round of an ask
abbrev pub round_of : Option Second → ℕ
round_of None = 1
round_of (Some second) = 2

-- its randomizer, which is n zero bytes in round one
abbrev pub c_of : Params → Option Second → List ℕ
c_of params None = replicate params.n 0
c_of params (Some second) = second.c

-- the head of a reply
abbrev pub reply_head : Share → Ask → Outcome → ReplyHead
reply_head share ask outcome = record {
  key = ask.key;
  leaf = ask.leaf;
  member = share.member;
  message = ask.message;
  round = round_of ask.second;
  c = c_of share.params ask.second;
  code = code_of outcome;
}

-- this project's profile: what a refusal keeps, the two gates, the kept message id, or the kept C and Q
abbrev pub kept_by : Refusal → List ℕ
kept_by ForeignKey = []
kept_by NoSuchLeaf = []
kept_by NotMember = []
kept_by (TooLong got) = []
kept_by BadCheck = []
kept_by (Journal journal.Device) = []
kept_by (Journal (journal.Damaged leaf a b)) = a ∷ b ∷ []
kept_by (Journal journal.NotBound) = []
kept_by (Journal (journal.Spent kept)) = message_id_bytes kept
kept_by (Journal (journal.OtherDigest c digest)) = c ++ digest

-- the masks of a grant, one after another
abbrev pub masks_joined : Share → Ask → List ℕ
masks_joined share ask = joined (mask_of share ask) (masks_of share.params ask)

-- what follows the head: the masks of a grant, or what a refusal keeps
abbrev pub reply_body : Share → Ask → Outcome → List ℕ
reply_body share ask (InTurn (Decided Granted)) = masks_joined share ask
reply_body share ask (InTurn (Decided (Refused why))) = kept_by why
reply_body share ask (InTurn (Denied message)) = []
reply_body share ask NoTurn = []

-- what is kept has its lengths
abbrev pub KeepsSizes : Params → Outcome → Type 0
KeepsSizes params (InTurn (Decided (Refused (Journal (journal.Spent kept))))) = length kept.hash ≡ 32
KeepsSizes params (InTurn (Decided (Refused (Journal (journal.OtherDigest c digest))))) =
    (length c ≡ params.n) × (length digest ≡ params.n)
KeepsSizes params outcome = ⊤

-- the reply to an ask
abbrev pub reply_bytes : Share → Ask → Outcome → List ℕ
reply_bytes share ask outcome = reply_front share.params (reply_head share ask outcome) ++ reply_body share ask outcome

-- this project's profile: no reply of a parameter set is longer than this: the 8 bytes of its header, at most 59 + 32
-- of its head, and p masks of n bytes
abbrev pub longest_reply : Params → ℕ
longest_reply params = 99 + params.p * params.n

-- the replies of these turns
abbrev pub replies : Share → List Turn → List ℕ
replies share turns = flat_map (λ (turn : Turn). reply_bytes share turn.ask turn.outcome) turns

-- what came of an ask, depending on the answer of the call
abbrev pub outcome_in : Answer → Outcome
outcome_in (answer.Decided result) = InTurn (book_answer_in result)
outcome_in answer.Worn = NoTurn

-- a grant is for this ask
abbrev pub IsGrantOf : Answer → Ask → Type 0
IsGrantOf (answer.Decided result) ask = IfOk result (λ grant. ask_of grant ≡ ask)
IsGrantOf answer.Worn ask = ⊤

-- an ask was answered in this way, in one turn or in none
pub record OneTurn (share : Share) (ids : Option (List (List ℕ))) (ask : Ask) (moment : ℕ) (result : Answer)
    (old new : Seen Note TrusteeName) : Type 0 where
  pub seen : List Entry
  pub added : List Entry
  pub serves : Serves share ids old new
      (record { ask = ask; moment = moment; seen = seen; outcome = outcome_in result; added = added } ∷ [])

-- internal: the digest of a granted ask has n bytes
abbrev pub HasDigest : Share → Answer → Type 0
HasDigest share (answer.Decided result) =
    IfOk result (λ grant. IfSome (ask_of grant).second (λ second. length second.digest ≡ share.params.n))
HasDigest share answer.Worn = ⊤

-- internal: what a refusal keeps is short
abbrev pub KeepsFew : Answer → Type 0
KeepsFew (answer.Decided (Err (Core why))) = length (kept_by why) ≤ 64
KeepsFew given = ⊤

-- internal: what follows the head, depending on the answer of the call
abbrev pub body_in : Share → Answer → List ℕ
body_in share (answer.Decided (Ok grant)) = masks_joined share (ask_of grant)
body_in share (answer.Decided (Err (Core why))) = kept_by why
body_in share (answer.Decided (Err (NotApproved message))) = []
body_in share answer.Worn = []
