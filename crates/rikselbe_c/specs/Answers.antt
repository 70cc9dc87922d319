-- What the numbers say about the bytes that C passes in.
use Rattle.std.specs.Prelude.{◌≡◌, ◌≢◌, ℕ, List, Some}
use Rattle.lms_bytes.specs.PublicKey.{public_bytes, public_fault}
use Rattle.lms_bytes.specs.declared.faults.KeyFault.{KeyFault}
use Rattle.lms_bytes.specs.declared.public_key.PublicKey.{PublicKey}
use Rattle.lms_verify.specs.Accepts.{AcceptsAt}
use Rattle.lms_verify.specs.Verdict.{IsVerdict}
use Rattle.lms_verify.specs.declared.verification.Verdict.{Verdict}
use Rattle.hss_levels.specs.HssAccepts.{HssAccepts}
use Rattle.hss_levels.specs.HssKey.{hss_key_bytes, hss_key_fault}
use Rattle.hss_levels.specs.Verdict.{IsHssVerdict}
use Rattle.hss_levels.specs.declared.faults.HssKeyFault.{HssKeyFault}
use Rattle.hss_levels.specs.declared.hss_key.HssKey.{HssKey}
use Rattle.hss_levels.specs.declared.verification.HssVerdict.{HssVerdict}
use Rattle.rikselbe_c.specs.Numbers.{hss_key_number, hss_number, lms_key_number, lms_number}

-- the bytes are an LMS key that accepts the signature for the message, and leaf q signed
-- (RFC 8554 section 5.4.2, Algorithm 6)
pub record LmsAccepts (key message signature : List ℕ) (q : ℕ) : Type 0 where
  pub public : PublicKey
  pub key_is : key ≡ public_bytes public
  pub accepted : AcceptsAt public message signature q

-- the number is that of the first test that fails: of the key's fault, or of the verdict under the key
pub data LmsAnswer (key message signature : List ℕ) : ℕ → Type 0 where
  no_key : (fault : KeyFault) → public_fault key ≡ Some fault → LmsAnswer key message signature (lms_key_number fault)
  verdict : (public : PublicKey) (says : Verdict) → key ≡ public_bytes public
      → IsVerdict public message signature says → LmsAnswer key message signature (lms_number says)

-- a verification that answered this number, and that found and left these numbers of a leaf: 0 exactly if the signature
-- is accepted, and then the leaf that signed; otherwise the fault's number, and the leaf as it was
pub record IsLmsVerified (key message signature : List ℕ) (old result new : ℕ) : Type 0 where
  pub answer : LmsAnswer key message signature result
  pub accepted : (q : ℕ) → LmsAccepts key message signature q → (result ≡ 0) × (new ≡ q)
  pub only : result ≡ 0 → LmsAccepts key message signature new
  pub refused : result ≢ 0 → new ≡ old

-- the same for an HSS key
pub data HssAnswer (key message signature : List ℕ) : ℕ → Type 0 where
  no_key : (fault : HssKeyFault) → hss_key_fault key ≡ Some fault
      → HssAnswer key message signature (hss_key_number fault)
  verdict : (public : HssKey) (says : HssVerdict) → key ≡ hss_key_bytes public
      → IsHssVerdict public message signature says → HssAnswer key message signature (hss_number says)

-- a verification under an HSS key that answered this number: 0 exactly if the signature is accepted, and the fault's
-- number otherwise
pub record IsHssVerified (key message signature : List ℕ) (result : ℕ) : Type 0 where
  pub answer : HssAnswer key message signature result
  pub accepted : HssAccepts key message signature → result ≡ 0
  pub only : result ≡ 0 → HssAccepts key message signature
