-- The levels of an HSS signature.
use Rattle.std.specs.Prelude.{ℕ, List, [], ◌∷◌, ◌++◌}
use Rattle.lms_bytes.specs.PublicKey.{public_bytes}
use Rattle.lms_bytes.specs.declared.public_key.PublicKey.{PublicKey}
use Rattle.lms_verify.specs.Accepts.{AcceptsAt}

-- the signature is accepted for the message under the LMS key, whichever leaf signed (RFC 8554 section 5.4.2)
abbrev pub Accepts : PublicKey → List ℕ → List ℕ → Type 0
Accepts key message signature = (q : ℕ) × AcceptsAt key message signature q

-- signed_pub_key: a public key, and the signature of it that the level above makes (RFC 8554 section 6.2)
pub record SignedKey : Type 0 where
  pub signature : List ℕ
  pub key : PublicKey

-- signed_pub_key[0] || signed_pub_key[1] || ..
abbrev pub signed_keys_bytes : List SignedKey → List ℕ
signed_keys_bytes [] = []
signed_keys_bytes (signed ∷ below) = signed.signature ++ public_bytes signed.key ++ signed_keys_bytes below

-- a level: its key, what it signs, and its signature
pub record Level : Type 0 where
  pub key : PublicKey
  pub message : List ℕ
  pub signature : List ℕ

-- the levels from a key on: each signs the key of the level below it, and the last one the message
-- (RFC 8554 section 6.3)
abbrev pub levels_of : PublicKey → List SignedKey → List ℕ → List ℕ → List Level
levels_of key [] message last = record { key = key; message = message; signature = last } ∷ []
levels_of key (signed ∷ below) message last =
    record { key = key; message = public_bytes signed.key; signature = signed.signature }
    ∷ levels_of signed.key below message last

-- the level's signature is accepted
abbrev pub IsSigned : Level → Type 0
IsSigned level = Accepts level.key level.message level.signature
