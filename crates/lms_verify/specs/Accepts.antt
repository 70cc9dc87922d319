-- When a signature is accepted, as a relation on whole strings.
use Rattle.std.specs.Prelude.{◌≡◌, ℕ, List}
use Rattle.lms_bytes.specs.Signature.{HasLayout}
use Rattle.lms_bytes.specs.declared.public_key.PublicKey.{PublicKey}
use Rattle.ots_chain.specs.LeafKey.{candidate_leaf_key}
use Rattle.ots_chain.specs.MessageHash.{message_digest}
use Rattle.merkle_path.specs.Nodes.{candidate_root}

-- the candidate root from a digest Q and the parts of a signature (RFC 8554 section 5.4.2, Algorithm 6a, steps 3 and 4)
abbrev pub root_of_digest : PublicKey → List ℕ → ℕ → List ℕ → List ℕ → List ℕ
root_of_digest key digest q y path =
    let leaf_key = candidate_leaf_key key.params key.id q digest y in
    candidate_root key.params key.id q leaf_key path

-- the candidate root from a message and the parts of a signature
abbrev pub root_of_parts : PublicKey → List ℕ → ℕ → List ℕ → List ℕ → List ℕ → List ℕ
root_of_parts key message q c y path = root_of_digest key (message_digest key.params key.id q c message) q y path

-- if the string is a signature, this is the digest of the message under its leaf and its randomizer
abbrev pub IsDigestOf : PublicKey → (message signature digest : List ℕ) → Type 0
IsDigestOf key message signature digest = (q : ℕ) (c y path : List ℕ) → HasLayout key.params signature q c y path
    → digest ≡ message_digest key.params key.id q c message

-- the string is a signature of leaf q, whose candidate root is this
pub record LeadsTo (key : PublicKey) (message signature : List ℕ) (q : ℕ) (root : List ℕ) : Type 0 where
  pub c : List ℕ
  pub y : List ℕ
  pub path : List ℕ
  pub layout : HasLayout key.params signature q c y path
  pub root_is : root_of_parts key message q c y path ≡ root

-- the signature is accepted for the message under the key, and leaf q signed (RFC 8554 section 5.4.2, Algorithm 6)
abbrev pub AcceptsAt : PublicKey → List ℕ → List ℕ → ℕ → Type 0
AcceptsAt key message signature q = LeadsTo key message signature q key.root
