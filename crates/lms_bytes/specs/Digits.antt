-- The Winternitz digits of a digest.
use Rattle.std.specs.Prelude.{ℕ, zero, suc, ◌+◌, ◌-◌, ◌*◌, ◌/◌, ◌%◌, ◌^◌, List, ◌++◌, slice_index}
use Rattle.std.specs.Int.{w16, to_be_bytes}
use Rattle.lms_bytes.specs.declared.params.Params.{Params}

-- digit i of width w in the string s (RFC 8554 section 3.1.3)
abbrev pub coef : List ℕ → ℕ → ℕ → ℕ
coef s i w = slice_index s (i * w / 8) / 2 ^ (8 - (w * (i % (8 / w)) + w)) % 2 ^ w

-- the sum of (2^w - 1) - coef over the first count digits of s (RFC 8554 section 4.4)
unfoldable pub shortfall : List ℕ → ℕ → ℕ → ℕ
shortfall s w zero = 0
shortfall s w (suc i) = shortfall s w i + (2 ^ w - 1 - coef s i w)

-- Cksm (RFC 8554 section 4.4)
abbrev pub checksum : Params → List ℕ → ℕ
checksum params digest = shortfall digest params.w (8 * params.n / params.w) * 2 ^ params.ls

-- digit i of the digest Q: coef(Q || u16str(Cksm(Q)), i, w) (RFC 8554 section 4.5)
abbrev pub digit_of : Params → List ℕ → ℕ → ℕ
digit_of params digest i = coef (digest ++ to_be_bytes w16 (checksum params digest)) i params.w
