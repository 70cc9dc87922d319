-- The sum of two masks.
use Rattle.std.proofs.Common.{◌≡◌, ℕ, List, length, replicate, sym, ◌∙◌, ap}
use Rattle.lms_bytes.specs.Bytes.{xor}
use Rattle.reference_value.proofs.Xor.{length-xor, xor-comm, xor-zeros}

-- a mask that is added to nothing
from-zeros : (n : ℕ) (a : List ℕ) → length a ≡ n → xor (replicate n 0) a ≡ a
from-zeros n a size = xor-comm (replicate n 0) a ∙ xor-zeros a n size

pub sum-of-two : (n : ℕ) (a b : List ℕ) → length a ≡ n → xor a b ≡ xor (xor (replicate n 0) a) b
sum-of-two n a b size = ap (λ (s : List ℕ). xor s b) (sym (from-zeros n a size))

pub length-of-two : (n : ℕ) (a b : List ℕ) → length a ≡ n → length b ≡ n → length (xor a b) ≡ n
length-of-two n a b first second = length-xor a b (first ∙ sym second) ∙ first
