-- XOR of strings of one length.
use Rattle.std.proofs.Common.{◌≡◌, ℕ, zero, suc, List, [], ◌∷◌, length, replicate, refl, ap, arith}
use lib.Bits.{xor_assoc, xor_comm, xor_self, xor_zero_r}
use Rattle.lms_bytes.specs.Bytes.{xor}

pub length-xor : (a b : List ℕ) → length a ≡ length b → length (xor a b) ≡ length a
length-xor [] [] e = refl
length-xor [] (y ∷ b) e = refl
length-xor (x ∷ a) [] e = absurd (omega arith)
length-xor (x ∷ a) (y ∷ b) e = ap suc (length-xor a b (omega arith))

pub xor-assoc : (a b c : List ℕ) → xor (xor a b) c ≡ xor a (xor b c)
xor-assoc [] b c = refl
xor-assoc (x ∷ a) [] c = refl
xor-assoc (x ∷ a) (y ∷ b) [] = refl
xor-assoc (x ∷ a) (y ∷ b) (z ∷ c) = rw (xor_assoc x y z, xor-assoc a b c) refl

pub xor-comm : (a b : List ℕ) → xor a b ≡ xor b a
xor-comm [] [] = refl
xor-comm [] (y ∷ b) = refl
xor-comm (x ∷ a) [] = refl
xor-comm (x ∷ a) (y ∷ b) = rw (xor_comm x y, xor-comm a b) refl

-- what is XORed twice is gone
pub xor-twice : (a b : List ℕ) → length a ≡ length b → xor (xor a b) b ≡ a
xor-twice [] b e = refl
xor-twice (x ∷ a) [] e = absurd (omega arith)
xor-twice (x ∷ a) (y ∷ b) e = rw (xor_assoc x y y, xor_self y, xor_zero_r x, xor-twice a b (omega arith)) refl

pub xor-zeros : (a : List ℕ) (n : ℕ) → length a ≡ n → xor a (replicate n 0) ≡ a
xor-zeros [] n e = refl
xor-zeros (x ∷ a) zero e = absurd (omega arith)
xor-zeros (x ∷ a) (suc n) e = rw (xor_zero_r x, xor-zeros a n (omega arith)) refl
