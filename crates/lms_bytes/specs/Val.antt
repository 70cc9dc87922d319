-- Hash values of 24 or 32 bytes, seen as the list of their bytes. The proof stands with the definitions, since the
-- toolchain requires what a type's model names to be among them.
use Rattle.std.specs.Prelude.{◌≡◌, ℕ, ◌-◌, List, ◌++◌, length, take, drop, replicate}
use Rattle.std.proofs.Common.{refl, arith, take-append-drop, length-take}
use Rattle.lms_bytes.specs.HashLength.{IsHashLength}
use Rattle.lms_bytes.specs.declared.val.Val.TheInside.{Inside}

-- how a value with these bytes is kept: filled with zeros
abbrev pub filled : List ℕ → Inside
filled bytes = record { bytes = bytes ++ replicate (32 - length bytes) 0; length = length bytes }

-- what every value keeps
abbrev pub IsFilled : Inside → Type 0
IsFilled v = (length v.bytes ≡ 32) × IsHashLength v.length × (drop v.length v.bytes ≡ replicate (32 - v.length) 0)

pub filled-view : (v : Inside) → IsFilled v → filled (take v.length v.bytes) ≡ v
filled-view v kept =
    let len : length (take v.length v.bytes) ≡ v.length = grind (arith, length-take) in
    let bytes : take v.length v.bytes ++ replicate (32 - v.length) 0 ≡ v.bytes =
    rw (← kept.2) (take-append-drop v.length v.bytes) in
    rw (len, bytes) refl
