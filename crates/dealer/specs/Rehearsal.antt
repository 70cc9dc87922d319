-- What a rehearsal gives, and why there is none.
use Rattle.std.specs.Prelude.{◌≡◌, ◌≢◌, ℕ, List, length}
use Rattle.lms_bytes.specs.PublicKey.{public_bytes}
use Rattle.lms_bytes.specs.declared.public_key.PublicKey.{PublicKey}
use Rattle.lms_verify.specs.Accepts.{AcceptsAt}
use Rattle.lms_verify.specs.UndividedKey.{UndividedKey, public_key_of, rfc_signature}
use Rattle.mask_prf.specs.Masks.{randomizer_of}
use Rattle.dealer.specs.Entropy.{entropy_length, id_in, random_key_in, seed_in, trustee_key}
use Rattle.dealer.specs.declared.faults.DealFault.{DealFault}
use Rattle.dealer.specs.declared.faults.DealFault.TheVariants.{BadEntropy, SameKeys}

-- the randomizer of leaf 0 under the entropy's randomizer key
abbrev pub rehearsed_randomizer : UndividedKey → List ℕ → List ℕ
rehearsed_randomizer key entropy = randomizer_of key.params (random_key_in entropy) key.id 0

-- These are the public key of the entropy's I and SEED, and the signature of the message that RFC 8554 makes with
-- leaf 0 under the entropy's randomizer (RFC 8554 section 5.4.1). It is accepted (section 5.4.2).
pub record IsRehearsed (entropy message : List ℕ) (public : PublicKey) (signature : List ℕ) : Type 0 where
  pub key : UndividedKey
  pub lms : key.params.lms ≡ 5
  pub ots : key.params.ots ≡ 3
  pub id : key.id ≡ id_in entropy
  pub seed : key.seed ≡ seed_in 32 entropy
  pub public_is : public_bytes public ≡ public_bytes (public_key_of key)
  pub signature_is : signature ≡ rfc_signature key 0 (rehearsed_randomizer key entropy) message
  pub accepted : AcceptsAt public message signature 0

-- entropy for two trustees, whose keys differ
pub record CanRehearse (entropy : List ℕ) : Type 0 where
  pub size : length entropy ≡ entropy_length 2
  pub keys : trustee_key entropy 1 ≢ trustee_key entropy 2

-- why other entropy is refused
pub data RehearsalFault (entropy : List ℕ) : DealFault → Type 0 where
  bad_entropy : length entropy ≢ entropy_length 2
      → RehearsalFault entropy (BadEntropy (length entropy) (entropy_length 2))
  same_keys : length entropy ≡ entropy_length 2 → trustee_key entropy 1 ≡ trustee_key entropy 2
      → RehearsalFault entropy (SameKeys 1 2)
