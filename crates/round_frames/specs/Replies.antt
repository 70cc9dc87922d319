-- This project's profile: replies. A payload is a head and a body. A head is I || u32str(q) || u8str(t) || message id,
-- of 57 bytes, and by kind what follows.
use Rattle.std.specs.Prelude.{◌≡◌, ◌⊎◌, ◌≤◌, ◌<◌, ◌^◌, ◌+◌, ◌*◌, ◌==◌, ◌||◌, ◌&&◌, ◌++◌, ℕ, Bool, List, [], ◌∷◌, length}
use Rattle.std.specs.Prelude.{take}
use Rattle.std.specs.Prelude.{drop}
use Rattle.std.specs.Prelude.{replicate, slice_index, nat_le, Result, Ok, Err, if◌then◌else◌}
use Rattle.std.specs.List.{list_all}
use Rattle.lms_bytes.specs.Bytes.{bytes_at, str_to_u32, u32str}
use Rattle.lms_bytes.specs.MessageId.{message_id_bytes}
use Rattle.lms_bytes.specs.declared.ask.ReplyHead.{ReplyHead}
use Rattle.lms_bytes.specs.declared.params.Params.{Params}
use Rattle.round_frames.specs.Frames.{Reader, header_bytes, limit}
use Rattle.round_frames.specs.declared.fault.FrameFault.{FrameFault}
use Rattle.round_frames.specs.declared.fault.FrameFault.TheVariants.{Shape}
use Rattle.round_frames.specs.declared.header.Header.{Header}

-- a head and its body
abbrev pub Reply : Type 0
Reply = ReplyHead × List ℕ

-- how long a head is: kind 3 is a mask, 4 are masks after C, 5 is a refusal with C, round and code
abbrev pub head_length : ℕ → ℕ → ℕ
head_length n kind = if kind == 3 then 57 else if kind == 4 then 57 + n else 59 + n

-- the length of what a refusal of this code keeps: two gates, a message id, or C and Q
abbrev pub kept_length : ℕ → ℕ → ℕ
kept_length n code =
    if code == 7 then 2 else
    if code == 9 then 36 else
    if code == 10 then 2 * n else 0

-- the lengths of the kinds
abbrev pub is_reply_length : Params → Header → Bool
is_reply_length params header =
    if header.kind == 3 then header.length == 57 + params.n else
    if header.kind == 4 then header.length == 57 + params.n + params.p * params.n else
    header.length == 59 + params.n || header.length == 61 + params.n
    || header.length == 95 + params.n || header.length == 59 + 3 * params.n

-- the head of these parts
abbrev pub head_of : List ℕ → List ℕ → ℕ → ℕ → ReplyHead
head_of head c round code = record {
  key = bytes_at head 0 16;
  leaf = str_to_u32 (bytes_at head 16 4);
  member = slice_index head 20;
  message = record { length = str_to_u32 (bytes_at head 21 4); hash = bytes_at head 25 32 };
  round = round;
  c = c;
  code = code;
}

-- test 8: a refusal is of round 1 or 2, its code is 1 to 12, its body is the code's, and in round one C is zero
abbrev pub is_refusal : ℕ → List ℕ → List ℕ → Bool
is_refusal n head body =
    let round = slice_index head (57 + n) in
    let code = slice_index head (58 + n) in
    (round == 1 || round == 2) && (nat_le 1 code && nat_le code 12) && length body == kept_length n code
    && (round == 2 || list_all (λ byte. byte == 0) (bytes_at head 57 n))

-- the reply of a head and a body
unfoldable pub reply_in : ℕ → ℕ → List ℕ → List ℕ → Result Reply FrameFault
reply_in n kind head body =
    if kind == 3 then Ok (head_of head (replicate n 0) 1 0, body) else
    if kind == 4 then Ok (head_of head (bytes_at head 57 n) 2 0, body) else
    if is_refusal n head body
    then Ok (head_of head (bytes_at head 57 n) (slice_index head (57 + n)) (slice_index head (58 + n)), body)
    else Err Shape

-- a head, and a room whose front is the body
abbrev pub reply_seen : Result (ReplyHead × ℕ) FrameFault → List ℕ → Result Reply FrameFault
reply_seen (Ok found) room = Ok (found.0, take found.1 room)
reply_seen (Err fault) room = Err fault

-- a head, and its body beside it
abbrev pub body_seen : Result ReplyHead FrameFault → List ℕ → Result Reply FrameFault
body_seen (Ok head) body = Ok (head, body)
body_seen (Err fault) body = Err fault

-- the reader of replies
abbrev pub replies : Params → Reader Reply
replies params = record {
  reads = λ kind. kind == 3 || kind == 4 || kind == 5;
  most = 52 + params.n + limit;
  has_length = is_reply_length params;
  value = λ header payload.
      let k = head_length params.n header.kind in
      reply_in params.n header.kind (take k payload) (drop k payload);
}

-- the kind of a head
abbrev pub kind_of : ReplyHead → ℕ
kind_of head = if head.code == 0 then (if head.round == 1 then 3 else 4) else 5

-- what all heads begin with
abbrev pub head_parts : ReplyHead → List ℕ
head_parts head = head.key ++ u32str head.leaf ++ head.member ∷ message_id_bytes head.message

-- what comes before the body
abbrev pub head_bytes : ReplyHead → List ℕ
head_bytes head =
    head_parts head
    ++ (if head.code == 0 then (if head.round == 1 then [] else head.c) else head.c ++ head.round ∷ head.code ∷ [])

-- the length of the body that follows a head
abbrev pub body_length : Params → ReplyHead → ℕ
body_length params head =
    if head.code == 0 then (if head.round == 1 then params.n else params.p * params.n)
    else kept_length params.n head.code

-- the length of the payload that a head begins
abbrev pub payload_length : Params → ReplyHead → ℕ
payload_length params head =
    if head.code == 0 then (if head.round == 1 then 57 + params.n else 57 + params.n + params.p * params.n)
    else 59 + params.n + kept_length params.n head.code

-- the header and the head of a reply; the body follows
abbrev pub reply_front : Params → ReplyHead → List ℕ
reply_front params head = header_bytes (kind_of head) (payload_length params head) ++ head_bytes head

-- a head that can be written: its round is 1 or 2, its code at most 12, and its C of the hash length, zero in round one
pub record IsHead (params : Params) (head : ReplyHead) : Type 0 where
  pub round : (head.round ≡ 1) ⊎ (head.round ≡ 2)
  pub code : head.code ≤ 12
  pub c : length head.c ≡ params.n
  pub zero : head.round ≡ 1 → head.c ≡ replicate params.n 0

-- the parts of a head have their lengths
pub record HasParts (head : ReplyHead) : Type 0 where
  pub key : length head.key ≡ 16
  pub leaf : head.leaf < 2 ^ 32
  pub message_length : head.message.length < 2 ^ 32
  pub hash : length head.message.hash ≡ 32
