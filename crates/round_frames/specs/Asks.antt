-- This project's profile: asks.
use Rattle.std.specs.Prelude.{◌≡◌, ◌≤◌, ◌<◌, ◌^◌, ⊤, ◌+◌, ◌==◌, ◌||◌, ◌++◌, ℕ, List, length, take, drop, nat_le}
use Rattle.std.specs.Prelude.{IfSome, MatchOption, Some, None, Ok, if◌then◌else◌}
use Rattle.lms_bytes.specs.Bytes.{bytes_at, str_to_u32, u32str}
use Rattle.lms_bytes.specs.MessageId.{message_id, message_id_bytes}
use Rattle.lms_bytes.specs.declared.ask.Ask.{Ask}
use Rattle.lms_bytes.specs.declared.ask.Second.{Second}
use Rattle.lms_bytes.specs.declared.params.Params.{Params}
use Rattle.ots_chain.specs.MessageHash.{message_digest}
use Rattle.round_frames.specs.Frames.{Reader, frame, header_bytes, limit}

-- kind 1, an ask of round one: I || u32str(q) || u32str(length) || SHA-256 of the message, 56 bytes
abbrev pub first_payload : Ask → List ℕ
first_payload ask = ask.key ++ u32str ask.leaf ++ message_id_bytes ask.message

abbrev pub first_ask : List ℕ → Ask
first_ask payload = record {
  key = bytes_at payload 0 16;
  leaf = str_to_u32 (bytes_at payload 16 4);
  message = record { length = str_to_u32 (bytes_at payload 20 4); hash = bytes_at payload 24 32 };
  second = None;
}

-- kind 2, an ask of round two: I || u32str(q) || C || tag, of 52 + n bytes, and the message
abbrev pub ask_of : Params → List ℕ → List ℕ → Ask
ask_of params head message =
    let key = bytes_at head 0 16 in
    let leaf = str_to_u32 (bytes_at head 16 4) in
    let c = bytes_at head 20 params.n in
    record {
      key = key;
      leaf = leaf;
      message = message_id message;
      second = Some (record {
        c = c;
        tag = bytes_at head (20 + params.n) 32;
        digest = message_digest params key leaf c message;
      });
    }

abbrev pub second_ask : Params → List ℕ → Ask
second_ask params payload = ask_of params (take (52 + params.n) payload) (drop (52 + params.n) payload)

-- the randomizer and the digest of an ask of round two have n bytes
abbrev pub HasSizes : Params → Ask → Type 0
HasSizes params ask = IfSome ask.second (λ second. (length second.c ≡ params.n) × (length second.digest ≡ params.n))

-- the reader of asks
abbrev pub asks : Params → Reader Ask
asks params = record {
  reads = λ kind. kind == 1 || kind == 2;
  most = 52 + params.n + limit;
  has_length = λ header. if header.kind == 1 then header.length == 56 else nat_le (52 + params.n) header.length;
  value = λ header payload. Ok (if header.kind == 1 then first_ask payload else second_ask params payload);
}

-- what comes before the message of an ask of round two
abbrev pub second_front : Ask → Second → List ℕ → List ℕ
second_front ask second message =
    header_bytes 2 (52 + length second.c + length message) ++ ask.key ++ u32str ask.leaf ++ second.c ++ second.tag

-- the frame of an ask, which is of round two if it has what round two adds
abbrev pub ask_frame : Ask → List ℕ → List ℕ
ask_frame ask message = elim ask.second [
  | None ↦ frame 1 (first_payload ask)
  | Some second ↦ second_front ask second message ++ message
]

-- how long the frame of an ask is: 64 bytes in round one, and in round two 60 + n and those of the message
abbrev pub ask_length : Params → Ask → List ℕ → ℕ
ask_length params ask message = elim ask.second [
  | None ↦ 64
  | Some second ↦ 60 + params.n + length message
]

-- what round two adds to an ask of this message
pub record IsSecond (params : Params) (ask : Ask) (message : List ℕ) (second : Second) : Type 0 where
  pub message_length : length message ≤ limit
  pub id : ask.message ≡ message_id message
  pub c : length second.c ≡ params.n
  pub tag : length second.tag ≡ 32
  pub digest : second.digest ≡ message_digest params ask.key ask.leaf second.c message

-- an ask of this message: its parts have their lengths, and in round two the digest is the message's
pub record IsAsk (params : Params) (ask : Ask) (message : List ℕ) : Type 0 where
  pub key : length ask.key ≡ 16
  pub leaf : ask.leaf < 2 ^ 32
  pub message_length : ask.message.length < 2 ^ 32
  pub hash : length ask.message.hash ≡ 32
  pub second : MatchOption ask.second ⊤ (IsSecond params ask message)
