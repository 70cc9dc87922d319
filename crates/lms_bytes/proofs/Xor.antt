-- XOR of two strings, byte by byte.
use Rattle.std.proofs.Common.{◌≡◌, ℕ, zero, suc, ◌<◌, List, [], ◌∷◌, ◌++◌, ◌+◌, length, get_or, take, refl, ap, arith, add-one}
use Rattle.std.specs.Prelude.{bit_xor}
use Rattle.lms_bytes.specs.Bytes.{xor}

xor-take_suc : (i : ℕ) (a b : List ℕ) → i < length a → i < length b
    → xor (take (suc i) a) (take (suc i) b) ≡ xor (take i a) (take i b) ++ bit_xor (get_or a i 0) (get_or b i 0) ∷ []
xor-take_suc i [] b short _ = absurd (omega arith)
xor-take_suc i (x ∷ a) [] _ short = absurd (omega arith)
xor-take_suc zero (x ∷ a) (y ∷ b) _ _ = refl
xor-take_suc (suc i) (x ∷ a) (y ∷ b) h k = ap (λ t. bit_xor x y ∷ t) (xor-take_suc i a b (omega arith) (omega arith))

pub xor_take_more : (i : ℕ) (a b : List ℕ) → i < length a → i < length b
    → xor (take (i + 1) a) (take (i + 1) b) ≡ xor (take i a) (take i b) ++ bit_xor (get_or a i 0) (get_or b i 0) ∷ []
xor_take_more i a b h k = rw (add-one i) (xor-take_suc i a b h k)
