-- HMAC with SHA-256, whose blocks have 64 bytes.
use Rattle.std.specs.Prelude.{ℕ, ◌-◌, List, ◌++◌, length, replicate, nat_lt, if◌then◌else◌}
use Rattle.sha2.specs.Sha256.{sha256}
use Rattle.lms_bytes.specs.Bytes.{xor}

-- a string filled up to a block with zeros (RFC 2104 section 2, step 1)
abbrev pub zero_filled : List ℕ → List ℕ
zero_filled s = s ++ replicate (64 - length s) 0

-- the key as a block: a key longer than a block is hashed first (RFC 2104 section 2)
unfoldable pub block_key : List ℕ → List ℕ
block_key key = zero_filled (if nat_lt 64 (length key) then sha256 key else key)

-- the key's block XOR a block of this byte (RFC 2104 section 2, steps 2 and 5)
unfoldable pub padded : List ℕ → ℕ → List ℕ
padded key by = xor (block_key key) (replicate 64 by)

-- H(K XOR opad, H(K XOR ipad, text)), where ipad repeats 0x36 and opad 0x5c (RFC 2104 section 2)
unfoldable pub hmac : List ℕ → List ℕ → List ℕ
hmac key text = sha256 (padded key 0x5c ++ sha256 (padded key 0x36 ++ text))
