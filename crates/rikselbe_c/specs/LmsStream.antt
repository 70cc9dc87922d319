-- A verification in the making, under an LMS key.
use Rattle.std.specs.Prelude.{◌≡◌, ℕ, List}
use Rattle.lms_bytes.specs.PublicKey.{public_bytes}
use Rattle.lms_bytes.specs.Signature.{HasLayout}
use Rattle.lms_bytes.specs.declared.public_key.PublicKey.{PublicKey}
use Rattle.ots_chain.specs.MessageHash.{HasTaken}
use Rattle.ots_chain.specs.declared.message_hash.MessageHash.{MessageHash}
use Rattle.rikselbe_c.specs.Answers.{IsLmsVerified}
use Rattle.rikselbe_c.specs.declared.lms_stream.LmsStream.{LmsStream}
use Rattle.rikselbe_c.specs.declared.lms_stream.LmsStream.TheVariants.{Refused, Hashing}

-- the key reads, the signature is its layout, and the hash has taken this much of the message
pub record IsHashing (public : PublicKey) (hash : MessageHash) (key signature message : List ℕ) : Type 0 where
  pub q : ℕ
  pub c : List ℕ
  pub y : List ℕ
  pub path : List ℕ
  pub key_is : key ≡ public_bytes public
  pub layout : HasLayout public.params signature q c y path
  pub taken : HasTaken hash public.params public.id q c message

-- the state was begun with this key and this signature, and has taken this much of the message; or the two are refused,
-- with this number, whatever the message is
abbrev pub HasTakenPart : LmsStream → List ℕ → List ℕ → List ℕ → Type 0
HasTakenPart (Refused number) key signature message =
    (whole : List ℕ) (leaf : ℕ) → IsLmsVerified key whole signature leaf number leaf
HasTakenPart (Hashing public hash) key signature message = IsHashing public hash key signature message
