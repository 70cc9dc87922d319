-- A key that is whole: a seed gives its secrets, its public key and its signatures.
use Rattle.std.specs.Prelude.{◌≡◌, ℕ, List, length}
use Rattle.lms_bytes.specs.Bytes.{joined}
use Rattle.lms_bytes.specs.Digits.{digit_of}
use Rattle.lms_bytes.specs.Signature.{signature_bytes}
use Rattle.lms_bytes.specs.declared.params.Params.{Params}
use Rattle.lms_bytes.specs.declared.public_key.PublicKey.{PublicKey}
use Rattle.ots_chain.specs.Chains.{secret_of, steps}
use Rattle.ots_chain.specs.LeafKey.{seed_leaf_key}
use Rattle.ots_chain.specs.MessageHash.{message_digest}
use Rattle.merkle_path.specs.Nodes.{path, root}
use Rattle.merkle_path.proofs.Lengths.{length-node}

-- a parameter set, I and SEED (RFC 8554 appendix A)
pub record UndividedKey : Type 0 where
  pub params : Params
  pub id : List ℕ
  pub seed : List ℕ
  pub id_length : length id ≡ 16
  pub seed_length : length seed ≡ params.n

-- x_q[i] (RFC 8554 appendix A)
abbrev pub secret : UndividedKey → ℕ → ℕ → List ℕ
secret key q i = secret_of key.params key.id q i key.seed

-- K of leaf q (RFC 8554 section 4.3, Algorithm 1)
abbrev pub leaf_key : UndividedKey → ℕ → List ℕ
leaf_key key q = seed_leaf_key key.params key.id q key.seed

-- T[1] of a parameter set, I and SEED (RFC 8554 section 5.3)
abbrev pub seed_root : Params → List ℕ → List ℕ → List ℕ
seed_root params id seed = root params id (λ q. seed_leaf_key params id q seed)

-- the public key (RFC 8554 section 5.3)
abbrev pub public_key_of : UndividedKey → PublicKey
public_key_of key = record {
  params = key.params;
  id = key.id;
  root = seed_root key.params key.id key.seed;
  id_length = key.id_length;
  root_length = length-node key.params key.id (leaf_key key) key.params.h 1;
}

-- y[0] || .. || y[p - 1] of leaf q for a digest (RFC 8554 section 4.5, Algorithm 3, step 8)
abbrev pub chain_values : UndividedKey → ℕ → List ℕ → List ℕ
chain_values key q digest =
    joined (λ i. steps key.params key.id q i 0 (digit_of key.params digest i) (secret key q i)) key.params.p

-- the signature of leaf q under the randomizer C (RFC 8554 section 5.4.1)
abbrev pub rfc_signature : UndividedKey → ℕ → List ℕ → List ℕ → List ℕ
rfc_signature key q c message =
    let digest = message_digest key.params key.id q c message in
    signature_bytes key.params q c (chain_values key q digest) (path key.params key.id (leaf_key key) q)
