-- No reply is longer than the longest.
use Rattle.std.proofs.Common.{◌≡◌, ◌≤◌, ◌*◌, ℕ, List, Ok, Err, Option, None, Some, length, ap, arith, length-append}
use Rattle.trustee_core.specs.declared.denial.Denial.TheVariants.{NotApproved, Core}
use Rattle.lms_bytes.specs.declared.ask.Ask.{Ask}
use Rattle.lms_bytes.specs.declared.ask.Second.{Second}
use Rattle.lms_bytes.specs.declared.message.MessageId.{MessageId}
use Rattle.lms_bytes.specs.declared.params.Params.{Params}
use Rattle.round_frames.specs.Replies.{reply_front}
use Rattle.share_files.specs.declared.share.Share.{Share}
use Rattle.trustee_node.specs.Replies.{KeepsFew, longest_reply, masks_joined, outcome_in, reply_body, reply_bytes, reply_head}
use Rattle.trustee_node.specs.declared.turn.Answer.{Answer}
use Rattle.trustee_node.specs.declared.turn.Answer.TheVariants as answer
use Rattle.round_frames.proofs.Writing.{small-hash}
use Rattle.trustee_node.proofs.Frames.{ask-by, granted-length}

-- a set's masks are longer than what a refusal keeps, or one mask
masks-long : (params : Params) → 66 ≤ params.p * params.n
masks-long params =
    let n = params.hash_length in
    let w = params.digit_width in
    let d = params.digest_digits in
    grind (arith, n, w, d)

granted-most : (share : Share) (key : List ℕ) (leaf : ℕ) (message : MessageId) (second : Option Second) → length (masks_joined share (ask-by key leaf message second)) ≤ share.params.p * share.params.n
granted-most share key leaf message None =
    let body = granted-length share key leaf message None in
    let long = masks-long share.params in
    let n = small-hash share.params in
    omega (arith, body, long, n)
granted-most share key leaf message (Some second) =
    let body = granted-length share key leaf message (Some second) in
    omega (arith, body)

body-most : (share : Share) (ask : Ask) (given : Answer) → KeepsFew given → length (reply_body share ask (outcome_in given)) ≤ share.params.p * share.params.n
body-most share ask (answer.Decided (Ok grant)) few = granted-most share ask.key ask.leaf ask.message ask.second
body-most share ask (answer.Decided (Err (Core why))) few = (let long = masks-long share.params in omega (arith, few, long))
body-most share ask (answer.Decided (Err (NotApproved message))) few = omega arith
body-most share ask answer.Worn few = omega arith

pub reply-most : (share : Share) (ask : Ask) (given : Answer) (front : List ℕ) → KeepsFew given → front ≡ reply_front share.params (reply_head share ask (outcome_in given))
    → length front ≤ 99 → length (reply_bytes share ask (outcome_in given)) ≤ longest_reply share.params
reply-most share ask given front few is short =
    let body = body-most share ask given few in
    let head = ap length is in
    omega (arith, body, head, short, length-append (reply_front share.params (reply_head share ask (outcome_in given))) (reply_body share ask (outcome_in given)))
