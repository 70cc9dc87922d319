-- The digest of a message under a leaf and a randomizer.
use Rattle.std.specs.Prelude.{◌≡◌, ℕ, List, ◌++◌}
use Rattle.lms_bytes.specs.Bytes.{u16str, u32str}
use Rattle.lms_bytes.specs.declared.params.Params.{Params}
use Rattle.sha2.specs.Hashers.{Holds256}
use Rattle.lms_bytes.specs.Hash.{hash}
use Rattle.ots_chain.specs.declared.message_hash.MessageHash.{MessageHash}

-- what is hashed: I || u32str(q) || u16str(D_MESG) || C || message
-- (RFC 8554 section 4.5, Algorithm 3, step 5, and section 7.1)
abbrev pub message_text : List ℕ → ℕ → List ℕ → List ℕ → List ℕ
message_text id q c message = id ++ u32str q ++ u16str 0x8181 ++ c ++ message

-- the digest Q
abbrev pub message_digest : Params → List ℕ → ℕ → List ℕ → List ℕ → List ℕ
message_digest params id q c message = hash params.n (message_text id q c message)

-- the state has taken this much of a message
pub record HasTaken (state : MessageHash) (params : Params) (id : List ℕ) (q : ℕ) (c message : List ℕ) : Type 0 where
  pub text : Holds256 state.hasher (message_text id q c message)
  pub hash_length : state.hash_length ≡ params.n
