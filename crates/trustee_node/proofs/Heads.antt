-- The heads of replies, and what follows them.
use Rattle.std.proofs.Common.{◌≡◌, ◌⊎◌, ◌≤◌, ◌++◌, ◌∙◌, ℕ, List, Option, None, Some, IfSome, Ok, Err, length, replicate, refl, ap, sym, subst, inl, inr, arith}
use Rattle.std.proofs.lemmas.List.{length-replicate}
use Rattle.opening_journal.specs.declared.faults.JournalFault.TheVariants as journal
use Rattle.trustee_core.specs.Approvals.{Decided, Denied}
use Rattle.trustee_core.specs.declared.denial.Denial.TheVariants.{NotApproved, Core}
use Rattle.lms_bytes.specs.declared.ask.Ask.{Ask}
use Rattle.lms_bytes.specs.declared.ask.Second.{Second}
use Rattle.lms_bytes.specs.declared.params.Params.{Params}
use Rattle.round_frames.specs.Asks.{HasSizes}
use Rattle.round_frames.specs.Replies.{IsHead, reply_front}
use Rattle.share_files.specs.declared.share.Share.{Share}
use Rattle.trustee_core.specs.Codes.{refusal_code}
use Rattle.trustee_core.specs.Decisions.{Granted, Refused}
use Rattle.trustee_core.specs.declared.refusal.Refusal.{Refusal}
use Rattle.trustee_core.specs.declared.refusal.Refusal.TheVariants as refusal
use Rattle.trustee_node.specs.Replies.{HasDigest, IsGrantOf, body_in, c_of, masks_joined, outcome_in, reply_body, reply_bytes, reply_head, round_of}
use Rattle.trustee_node.specs.Turns.{InTurn, NoTurn, Outcome, code_of}
use Rattle.trustee_node.specs.declared.turn.Answer.{Answer}
use Rattle.trustee_node.specs.declared.turn.Answer.TheVariants as answer

-- the sizes of an ask, one by one
c-size : (n : ℕ) (second : Option Second) → IfSome second (λ s. (length s.c ≡ n) × (length s.digest ≡ n)) → IfSome second (λ s. length s.c ≡ n)
c-size n None is = tt
c-size n (Some second) is = is.0

digest-size : (n : ℕ) (second : Option Second) → IfSome second (λ s. (length s.c ≡ n) × (length s.digest ≡ n)) → IfSome second (λ s. length s.digest ≡ n)
digest-size n None is = tt
digest-size n (Some second) is = is.1

pub sizes-c : (params : Params) (ask : Ask) → HasSizes params ask → IfSome ask.second (λ s. length s.c ≡ params.n)
sizes-c params ask is = c-size params.n ask.second is

pub sizes-digest : (params : Params) (ask : Ask) → HasSizes params ask → IfSome ask.second (λ s. length s.digest ≡ params.n)
sizes-digest params ask is = digest-size params.n ask.second is

refusal-small : (why : Refusal) → refusal_code why ≤ 12
refusal-small refusal.ForeignKey = omega arith
refusal-small refusal.NoSuchLeaf = omega arith
refusal-small refusal.NotMember = omega arith
refusal-small (refusal.TooLong got) = omega arith
refusal-small refusal.BadCheck = omega arith
refusal-small (refusal.Journal journal.Device) = omega arith
refusal-small (refusal.Journal (journal.Damaged leaf a b)) = omega arith
refusal-small (refusal.Journal journal.NotBound) = omega arith
refusal-small (refusal.Journal (journal.Spent kept)) = omega arith
refusal-small (refusal.Journal (journal.OtherDigest c digest)) = omega arith

code-small : (outcome : Outcome) → code_of outcome ≤ 12
code-small (InTurn (Decided Granted)) = omega arith
code-small (InTurn (Decided (Refused why))) = refusal-small why
code-small (InTurn (Denied message)) = omega arith
code-small NoTurn = omega arith

round-is : (second : Option Second) → (round_of second ≡ 1) ⊎ (round_of second ≡ 2)
round-is None = inl refl
round-is (Some second) = inr refl

c-length : (params : Params) (second : Option Second) → IfSome second (λ s. length s.c ≡ params.n) → length (c_of params second) ≡ params.n
c-length params None is = length-replicate {A = ℕ} params.n 0
c-length params (Some second) is = is

c-zero : (params : Params) (second : Option Second) → round_of second ≡ 1 → c_of params second ≡ replicate params.n 0
c-zero params None is = refl
c-zero params (Some second) is = absurd (omega (arith, is))

-- the head of a reply can be written
pub is-head : (share : Share) (ask : Ask) (outcome : Outcome) → HasSizes share.params ask → IsHead share.params (reply_head share ask outcome)
is-head share ask outcome sizes = record {
  round = round-is ask.second;
  code = code-small outcome;
  c = c-length share.params ask.second (sizes-c share.params ask sizes);
  zero = c-zero share.params ask.second;
}

-- what follows the head, depending on the answer of the call
pub body-is : (share : Share) (ask : Ask) (given : Answer) → IsGrantOf given ask → body_in share given ≡ reply_body share ask (outcome_in given)
body-is share ask (answer.Decided (Ok grant)) is = ap (masks_joined share) is
body-is share ask (answer.Decided (Err (Core why))) is = refl
body-is share ask (answer.Decided (Err (NotApproved message))) is = refl
body-is share ask answer.Worn is = refl

-- the front of a room and what follows it are the reply
pub reply-is : (share : Share) (ask : Ask) (given : Answer) (front : List ℕ) → IsGrantOf given ask → front ≡ reply_front share.params (reply_head share ask (outcome_in given))
    → front ++ body_in share given ≡ reply_bytes share ask (outcome_in given)
reply-is share ask given front is head =
    ap (λ (l : List ℕ). l ++ body_in share given) head ∙ ap (λ (l : List ℕ). reply_front share.params (reply_head share ask (outcome_in given)) ++ l) (body-is share ask given is)

-- the digest of a granted ask has n bytes
pub has-digest : (share : Share) (ask : Ask) (given : Answer) → IsGrantOf given ask → HasSizes share.params ask → HasDigest share given
has-digest share ask (answer.Decided (Ok grant)) is sizes = subst (λ (a : Ask). IfSome a.second (λ s. length s.digest ≡ share.params.n)) (sym is) (sizes-digest share.params ask sizes)
has-digest share ask (answer.Decided (Err why)) is sizes = tt
has-digest share ask answer.Worn is sizes = tt
