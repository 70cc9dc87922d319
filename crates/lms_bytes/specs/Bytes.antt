-- Strings of bytes.
use Rattle.std.specs.Prelude.{ℕ, zero, suc, List, [], ◌∷◌, ◌++◌, take, drop, bit_xor}
use Rattle.std.specs.Int.{w16, w32, to_be_bytes, from_be_bytes}

-- u8str, u16str, u32str and strTou32 (RFC 8554 section 3.1.1)
abbrev pub u8str : ℕ → List ℕ
u8str x = x ∷ []

abbrev pub u16str : ℕ → List ℕ
u16str x = to_be_bytes w16 x

abbrev pub u32str : ℕ → List ℕ
u32str x = to_be_bytes w32 x

abbrev pub str_to_u32 : List ℕ → ℕ
str_to_u32 s = from_be_bytes w32 s

-- count bytes of s, from this place on
abbrev pub bytes_at : List ℕ → ℕ → ℕ → List ℕ
bytes_at s place count = take count (drop place s)

-- the bytes of one string, each XOR the byte of the other at the same place
abbrev pub xor : List ℕ → List ℕ → List ℕ
xor (a ∷ rest) (b ∷ others) = bit_xor a b ∷ xor rest others
xor rest others = []

-- f 0 || f 1 || .. || f (count - 1)
unfoldable pub joined : (ℕ → List ℕ) → ℕ → List ℕ
joined f zero = []
joined f (suc count) = joined f count ++ f count
