-- What stands for a message.
use Rattle.std.specs.Prelude.{ℕ, List, ◌++◌, length}
use Rattle.sha2.specs.Sha256.{sha256}
use Rattle.lms_bytes.specs.Bytes.{bytes_at, str_to_u32, u32str}
use Rattle.lms_bytes.specs.declared.message.MessageId.{MessageId}

-- the length and SHA-256 of the message
abbrev pub message_id : List ℕ → MessageId
message_id message = record { length = length message; hash = sha256 message }

-- u32str(length) || SHA-256(message), 36 bytes
abbrev pub message_id_bytes : MessageId → List ℕ
message_id_bytes id = u32str id.length ++ id.hash

-- the id that lies in 36 bytes
abbrev pub message_id_of : List ℕ → MessageId
message_id_of bytes = record { length = str_to_u32 (bytes_at bytes 0 4); hash = bytes_at bytes 4 32 }
