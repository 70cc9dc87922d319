-- Replies are frames.
use Rattle.std.proofs.Common.{◌≡◌, ◌+◌, ◌*◌, ℕ, zero, suc, List, Option, None, Some, length, refl, sym, ap, ◌∙◌, arith, length-append}
use Rattle.opening_journal.specs.declared.faults.JournalFault.TheVariants as journal
use Rattle.trustee_core.specs.Approvals.{Decided, Denied}
use Rattle.lms_bytes.specs.Bytes.{joined, u32str}
use Rattle.lms_bytes.specs.declared.ask.Ask.{Ask}
use Rattle.lms_bytes.specs.declared.ask.Second.{Second}
use Rattle.lms_bytes.specs.declared.message.MessageId.{MessageId}
use Rattle.mask_prf.proofs.Lengths.{length-chain_mask_of, length-random_mask_of}
use Rattle.round_frames.proofs.Replying.{reply-again}
use Rattle.round_frames.specs.Asks.{HasSizes}
use Rattle.round_frames.specs.Frames.{ReadsBack}
use Rattle.round_frames.specs.Replies.{HasParts, body_length, replies}
use Rattle.share_files.specs.declared.share.Share.{Share}
use Rattle.trustee_core.specs.Decisions.{Granted, Refused}
use Rattle.trustee_core.specs.Grants.{mask_of}
use Rattle.trustee_core.specs.declared.refusal.Refusal.{Refusal}
use Rattle.trustee_core.specs.declared.refusal.Refusal.TheVariants as refusal
use Rattle.trustee_node.specs.Replies.{KeepsSizes, masks_joined, reply_body, reply_bytes, reply_head}
use Rattle.trustee_node.specs.Turns.{InTurn, NoTurn, Outcome}
use Rattle.trustee_node.proofs.Heads.{is-head}

joined-length : (f : ℕ → List ℕ) (n : ℕ) → ((i : ℕ) → length (f i) ≡ n) → (count : ℕ) → length (joined f count) ≡ count * n
unfolding joined
joined-length f n each zero = let none : 0 * n ≡ 0 = grind arith in sym none
joined-length f n each (suc count) =
    let a = length-append (joined f count) (f count) in
    let b = joined-length f n each count in
    let e = each count in
    let m : suc count * n ≡ count * n + n = grind arith in
    a ∙ (omega (arith, b, e, m))

abbrev pub ask-by : List ℕ → ℕ → MessageId → Option Second → Ask
ask-by key leaf message second = record { key = key; leaf = leaf; message = message; second = second }

pub granted-length : (share : Share) (key : List ℕ) (leaf : ℕ) (message : MessageId) (second : Option Second)
    → length (masks_joined share (ask-by key leaf message second)) ≡ body_length share.params (reply_head share (ask-by key leaf message second) (InTurn (Decided Granted)))
granted-length share key leaf message None =
    let one : 1 * share.params.n ≡ share.params.n = grind arith in
    joined-length (mask_of share (ask-by key leaf message None)) share.params.n (λ i. length-random_mask_of share.params share.key share.id leaf) 1 ∙ one
granted-length share key leaf message (Some second) =
    joined-length (mask_of share (ask-by key leaf message (Some second))) share.params.n (λ i. length-chain_mask_of share.params share.key share.id leaf i _) share.params.p

refused-length : (share : Share) (ask : Ask) (why : Refusal) → KeepsSizes share.params (InTurn (Decided (Refused why)))
    → length (reply_body share ask (InTurn (Decided (Refused why)))) ≡ body_length share.params (reply_head share ask (InTurn (Decided (Refused why))))
refused-length share ask refusal.ForeignKey keeps = refl
refused-length share ask refusal.NoSuchLeaf keeps = refl
refused-length share ask refusal.NotMember keeps = refl
refused-length share ask (refusal.TooLong got) keeps = refl
refused-length share ask refusal.BadCheck keeps = refl
refused-length share ask (refusal.Journal journal.Device) keeps = refl
refused-length share ask (refusal.Journal (journal.Damaged leaf a b)) keeps = refl
refused-length share ask (refusal.Journal journal.NotBound) keeps = refl
refused-length share ask (refusal.Journal (journal.Spent kept)) keeps = length-append (u32str kept.length) kept.hash ∙ ap (λ (n : ℕ). 4 + n) keeps
refused-length share ask (refusal.Journal (journal.OtherDigest c digest)) keeps =
    let a = keeps.0 in
    let b = keeps.1 in
    length-append c digest ∙ (omega (arith, a, b))

body-length : (share : Share) (ask : Ask) (outcome : Outcome) → KeepsSizes share.params outcome → length (reply_body share ask outcome) ≡ body_length share.params (reply_head share ask outcome)
body-length share ask (InTurn (Decided Granted)) keeps = granted-length share ask.key ask.leaf ask.message ask.second
body-length share ask (InTurn (Decided (Refused why))) keeps = refused-length share ask why keeps
body-length share ask (InTurn (Denied message)) keeps = refl
body-length share ask NoTurn keeps = refl

pub read-back : (share : Share) (ask : Ask) (outcome : Outcome) → HasParts (reply_head share ask outcome) → HasSizes share.params ask → KeepsSizes share.params outcome
    → ReadsBack (replies share.params) (reply_bytes share ask outcome) (reply_head share ask outcome, reply_body share ask outcome)
read-back share ask outcome has sizes keeps =
    reply-again share.params (reply_head share ask outcome) (reply_body share ask outcome) has (is-head share ask outcome sizes) (body-length share ask outcome keeps)
