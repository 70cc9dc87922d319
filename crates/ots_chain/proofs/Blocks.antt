-- Parts of a block that is written piece by piece.
use Rattle.std.proofs.Common.{◌≡◌, ℕ, ◌+◌, ◌≤◌, List, ◌++◌, take, drop, refl, sym, ◌∙◌, ap}
use Rattle.std.proofs.lemmas.List.{take-take}
use Rattle.std.proofs.Math.Seq.{take-add}
use Rattle.lms_bytes.specs.Bytes.{bytes_at}

-- what agrees on a front agrees on a shorter one
pub shorter : (a b : List ℕ) (m n : ℕ) → n ≤ m → take m a ≡ take m b → take n a ≡ take n b
shorter a b m n h e = sym (take-take n m a h) ∙ ap (take n) e ∙ take-take n m b h

-- a block before its step: the place, the number of the step, and the value
pub block_text : (old new number : List ℕ) (n : ℕ) → take 23 new ≡ take 22 old ++ number → drop 23 new ≡ drop 23 old
    → bytes_at new 0 (23 + n) ≡ take 22 old ++ number ++ bytes_at old 23 n
block_text old new number n front after = rw (take-add 23 n new, front, after) refl
