-- When an HSS signature is accepted, as a relation on whole strings.
use Rattle.std.specs.Prelude.{◌≡◌, ◌+◌, ◌≤◌, ℕ, List, ◌++◌, length}
use Rattle.std.specs.List.{AllByRecursion}
use Rattle.lms_bytes.specs.Bytes.{u32str}
use Rattle.lms_bytes.specs.PublicKey.{public_bytes}
use Rattle.lms_bytes.specs.declared.public_key.PublicKey.{PublicKey}
use Rattle.hss_levels.specs.Levels.{IsSigned, SignedKey, levels_of, signed_keys_bytes}

-- u32str(Nspk) || signed_pub_key[0] || .. || signed_pub_key[Nspk - 1] || sig[Nspk] (RFC 8554 section 6.2)
abbrev pub hss_signature_bytes : List SignedKey → List ℕ → List ℕ
hss_signature_bytes keys last = u32str (length keys) ++ signed_keys_bytes keys ++ last

-- the signature is accepted for the message under the HSS key, which has L = Nspk + 1 levels, 1 to 8: each level's
-- signature is accepted for the key of the level below it, and the last one's for the message (RFC 8554 section 6.3)
pub record HssAccepts (key message signature : List ℕ) : Type 0 where
  pub top : PublicKey
  pub keys : List SignedKey
  pub last : List ℕ
  pub levels : length keys + 1 ≤ 8
  pub key_is : key ≡ u32str (length keys + 1) ++ public_bytes top
  pub signature_is : signature ≡ hss_signature_bytes keys last
  pub signed : AllByRecursion IsSigned (levels_of top keys message last)
