-- The lengths of hash values.
use Rattle.std.proofs.Common.{◌≡◌, ℕ, List, length, take, inl, inr, arith, length-take}
use Rattle.sha2.specs.Sha256.{sha256}
use Rattle.sha2.proofs.Facts256.{length-sha256}
use Rattle.lms_bytes.specs.Hash.{hash}
use Rattle.lms_bytes.specs.HashLength.{IsHashLength}
use Rattle.lms_bytes.specs.declared.params.Params.{Params}

-- the result of cutting 32 bytes to a hash length
pub length-cut : (n : ℕ) (s : List ℕ) → IsHashLength n → length s ≡ 32 → length (take n s) ≡ n
length-cut n s (inl e) all = omega (arith, length-take n s)
length-cut n s (inr e) all = omega (arith, length-take n s)

pub length-hash : (params : Params) (text : List ℕ) → length (hash params.n text) ≡ params.n
length-hash params text = length-cut params.n (sha256 text) params.hash_length (length-sha256 text)
