-- The lower key, its signature and the message, which are read before anything is signed.
use Rattle.std.specs.Prelude.{ℕ, List, [], ◌∷◌, All}
use Rattle.hss_levels.specs.Levels.{Accepts}
use Rattle.lms_bytes.specs.declared.public_key.PublicKey.{PublicKey}
use Rattle.tool_base.specs.Ending.{Ending}
use Rattle.tool_base.specs.Outputs.{IsNew}
use Rattle.tool_base.specs.Reads.{FailsToRead}
use Rattle.tool_base.specs.World.{Bytes, IsRead, StoreRun}
use Rattle.tool_desk.specs.Key.{FailsKey, IsKeyRead}
use Rattle.tool_sign.specs.declared.lower.Lower as declared
use Rattle.tool_words.specs.Words.{HssSignWords}

-- the names of both outputs, in the order in which they are tested and written
abbrev pub output_names : HssSignWords → List (List ℕ)
output_names words = words.key_out ∷ words.signature_out ∷ []

-- the lower key, and its signature of the message
pub record Lower : Type 0 where
  pub key : PublicKey
  pub signature : List ℕ
  pub message : List ℕ

-- internal: as it stands in the memory of the program
abbrev pub lower_of : declared.Lower → Lower
lower_of lower = record { key = lower.key; signature = lower.signature.items; message = lower.message.items }

-- the files of the words are these
pub record IsLower (words : HssSignWords) (store : StoreRun) (lower : Lower) : Type 0 where
  pub key : IsKeyRead store words.low_key lower.key
  pub signature : IsRead store words.low_signature (Bytes lower.signature)
  pub message : IsRead store words.message (Bytes lower.message)

-- the end if one of them was not read, or the key is no key; the key is tested before the signature is read
pub data FailsLower (words : HssSignWords) (store : StoreRun) : Ending → Type 0 where
  no_key : (end : Ending) → FailsKey store words.low_key end → FailsLower words store end
  no_signature : (key : PublicKey) (end : Ending) → IsKeyRead store words.low_key key
      → FailsToRead store words.low_signature end → FailsLower words store end
  no_message : (key : PublicKey) (signature : List ℕ) (end : Ending) → IsKeyRead store words.low_key key
      → IsRead store words.low_signature (Bytes signature) → FailsToRead store words.message end
      → FailsLower words store end

-- all is ready for a session: both outputs are new, and the lower signature is accepted for the message
pub record IsReady (words : HssSignWords) (store : StoreRun) (lower : Lower) : Type 0 where
  pub new : All (IsNew store) (output_names words)
  pub read : IsLower words store lower
  pub accepted : Accepts lower.key lower.message lower.signature
