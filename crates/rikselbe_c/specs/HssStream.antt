-- A verification in the making, under an HSS key.
use Rattle.std.specs.Prelude.{◌≡◌, ◌≤◌, ◌+◌, ℕ, List, [], ◌∷◌, length, drop}
use Rattle.lms_bytes.specs.Bytes.{bytes_at, u32str}
use Rattle.lms_bytes.specs.PublicKey.{public_bytes}
use Rattle.lms_bytes.specs.Signature.{HasLayout}
use Rattle.lms_bytes.specs.declared.public_key.PublicKey.{PublicKey}
use Rattle.ots_chain.specs.MessageHash.{HasTaken}
use Rattle.ots_chain.specs.declared.message_hash.MessageHash.{MessageHash}
use Rattle.hss_levels.specs.HssKey.{hss_key_bytes}
use Rattle.hss_levels.specs.Levels.{Accepts, SignedKey}
use Rattle.hss_levels.specs.Parts.{ArePartsOf}
use Rattle.hss_levels.specs.declared.hss_key.HssKey.{HssKey}
use Rattle.rikselbe_c.specs.Answers.{IsHssVerified}
use Rattle.rikselbe_c.specs.declared.hss_stream.HssStream.{HssStream}
use Rattle.rikselbe_c.specs.declared.hss_stream.HssStream.TheVariants.{Refused, Hashing}

-- the key that signs the message: the last of those below a key
abbrev pub last_key : PublicKey → List SignedKey → PublicKey
last_key key [] = key
last_key key (signed ∷ below) = last_key signed.key below

-- each of the keys is signed by the one above it
abbrev pub AreSigned : PublicKey → List SignedKey → Type 0
AreSigned key [] = Unit {0}
AreSigned key (signed ∷ below) = Accepts key (public_bytes signed.key) signed.signature × AreSigned signed.key below

-- the string has a signed key for each level below the top one, each signed by the one above it, and a last signature,
-- all of which read
pub record HasLevels (key : HssKey) (signature : List ℕ) : Type 0 where
  pub keys : List SignedKey
  pub last : List ℕ
  pub count : length keys + 1 ≡ key.levels
  pub number : u32str (length keys) ≡ bytes_at signature 0 4
  pub parts : ArePartsOf key.top (length keys) (drop 4 signature) keys last
  pub signed : AreSigned key.top keys

-- the key reads, all levels above the last are signed, the last signature is its layout and lies at this place, and the
-- hash has taken this much of the message
pub record IsHashing (level place : ℕ) (public : PublicKey) (hash : MessageHash) (key signature message : List ℕ)
    : Type 0 where
  pub top : HssKey
  pub key_is : key ≡ hss_key_bytes top
  pub levels : HasLevels top signature
  pub level_is : level ≡ length levels.keys
  pub place_fits : place ≤ length signature
  pub last_is : drop place signature ≡ levels.last
  pub public_is : public ≡ last_key top.top levels.keys
  pub q : ℕ
  pub c : List ℕ
  pub y : List ℕ
  pub path : List ℕ
  pub layout : HasLayout public.params levels.last q c y path
  pub taken : HasTaken hash public.params public.id q c message

-- the state was begun with this key and this signature, and has taken this much of the message; or the two are refused,
-- with this number, whatever the message is
abbrev pub HasTakenPart : HssStream → List ℕ → List ℕ → List ℕ → Type 0
HasTakenPart (Refused number) key signature message = (whole : List ℕ) → IsHssVerified key whole signature number
HasTakenPart (Hashing level place public hash) key signature message =
    IsHashing level place public hash key signature message
