-- How the parts of an HSS signature are read, and the first that does not read.
use Rattle.std.specs.Prelude.{◌≡◌, ◌≢◌, ◌+◌, ◌<◌, ◌≤◌, ℕ, suc, nat_lt, if◌then◌else◌}
use Rattle.std.specs.Prelude.{List, [], ◌∷◌, ◌++◌, length, take, drop, Option, Some, None}
use Rattle.lms_bytes.specs.Bytes.{bytes_at, str_to_u32}
use Rattle.lms_bytes.specs.Params.{codes_fault}
use Rattle.lms_bytes.specs.PublicKey.{public_bytes, public_fault, public_length}
use Rattle.lms_bytes.specs.Signature.{signature_fault, signature_length}
use Rattle.lms_bytes.specs.declared.faults.KeyFault.{KeyFault}
use Rattle.lms_bytes.specs.declared.faults.SigFault.{SigFault}
use Rattle.lms_bytes.specs.declared.public_key.PublicKey.{PublicKey}
use Rattle.hss_levels.specs.Levels.{SignedKey, signed_keys_bytes}
use Rattle.hss_levels.specs.declared.faults.HssFault.{HssFault}
use Rattle.hss_levels.specs.declared.faults.HssFault.TheVariants.{Short, Levels, Sig, Pub}
use Rattle.hss_levels.specs.declared.hss_key.HssKey.{HssKey}

-- this project's profile: a signature that is followed by a key is read from as many bytes as its set has, or from all
-- of them if there are fewer
abbrev pub signature_front : PublicKey → List ℕ → List ℕ
signature_front key parts = take (signature_length key.params) parts

abbrev pub behind_signature : PublicKey → List ℕ → List ℕ
behind_signature key parts = drop (signature_length key.params) parts

-- this project's profile: a key is read from as many bytes as the set of its typecodes has, or from all of them if
-- there are fewer, or if the typecodes are of no set
unfoldable pub key_front : List ℕ → List ℕ
key_front parts =
    let lms = str_to_u32 (bytes_at parts 0 4) in
    if nat_lt (length parts) 8 then parts else
    elim (codes_fault lms (str_to_u32 (bytes_at parts 4 4))) [
      | None ↦ take (public_length lms) parts
      | Some fault ↦ parts
    ]

-- why no signed key is read at the front of the string: its signature, of this level, does not read; or it does, and
-- its key, of the level below, does not
pub data SignedKeyFault (key : PublicKey) (level : ℕ) (parts : List ℕ) : HssFault → Type 0 where
  signature : (fault : SigFault) → signature_fault key.params (signature_front key parts) ≡ Some fault
      → SignedKeyFault key level parts (Sig level fault)
  key_behind : (fault : KeyFault) → signature_fault key.params (signature_front key parts) ≡ None
      → public_fault (key_front (behind_signature key parts)) ≡ Some fault
      → SignedKeyFault key level parts (Pub (level + 1) fault)

-- the first part that does not read, in the order of the bytes: the string should have the signed keys of that many
-- levels below the key, which is of this level, and then the last signature
pub data PartsFault : PublicKey → ℕ → ℕ → List ℕ → HssFault → Type 0 where
  last_signature : (key : PublicKey) (level : ℕ) (parts : List ℕ) (fault : SigFault)
      → signature_fault key.params parts ≡ Some fault → PartsFault key level 0 parts (Sig level fault)
  signed_key : (key : PublicKey) (level below : ℕ) (parts : List ℕ) (fault : HssFault)
      → SignedKeyFault key level parts fault → PartsFault key level (suc below) parts fault
  further : (key : PublicKey) (level below : ℕ) (parts : List ℕ) (fault : HssFault)
      → (signed : SignedKey) (behind : List ℕ) → signature_fault key.params signed.signature ≡ None
      → parts ≡ signed.signature ++ public_bytes signed.key ++ behind
      → PartsFault signed.key (level + 1) below behind fault → PartsFault key level (suc below) parts fault

-- the first test that bytes fail as a signature under a key of L levels
pub data IsHssFault (key : HssKey) (signature : List ℕ) : HssFault → Type 0 where
  short : length signature < 4 → IsHssFault key signature Short
  levels : 4 ≤ length signature → str_to_u32 (bytes_at signature 0 4) + 1 ≢ key.levels
      → IsHssFault key signature (Levels (str_to_u32 (bytes_at signature 0 4)))
  part : (keys : ℕ) (fault : HssFault) → 4 ≤ length signature → str_to_u32 (bytes_at signature 0 4) ≡ keys
      → keys + 1 ≡ key.levels → PartsFault key.top 0 keys (drop 4 signature) fault → IsHssFault key signature fault

-- each signature reads under the key above it, and so does the last one
abbrev pub AllRead : PublicKey → List SignedKey → List ℕ → Type 0
AllRead key [] last = signature_fault key.params last ≡ None
AllRead key (signed ∷ below) last = (signature_fault key.params signed.signature ≡ None) × AllRead signed.key below last

-- internal: the string is these signed keys, as many as there are levels below the key, and this last signature
pub record ArePartsOf (key : PublicKey) (below : ℕ) (parts : List ℕ) (keys : List SignedKey) (last : List ℕ)
    : Type 0 where
  pub count : length keys ≡ below
  pub parts_are : parts ≡ signed_keys_bytes keys ++ last
  pub read : AllRead key keys last
