-- The hash function of a parameter set.
use Rattle.std.specs.Prelude.{ℕ, List, take}
use Rattle.sha2.specs.Sha256.{sha256}

-- H: the first n bytes of SHA-256 (RFC 8554 section 4.1, SP 800-208 section 2.3)
abbrev pub hash : ℕ → List ℕ → List ℕ
hash n s = take n (sha256 s)
