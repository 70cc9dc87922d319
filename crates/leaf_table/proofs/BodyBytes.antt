-- The bytes of the bodies of slots.
use Rattle.std.proofs.Common.{◌≡◌, ℕ, zero, suc, ◌+◌, ◌%◌, ◌/◌, ◌<◌, List, [], ◌∷◌, ◌++◌, length, get_or, set, take, drop, ◌∙◌, ap, arith, refl, length-append, length-take, length-drop}
use Rattle.std.proofs.lemmas.List.{take-append-drop, take_all}
use Rattle.std.proofs.lemmas.Nat.{be_bytes_4}
use Rattle.lms_bytes.specs.Bytes.{u32str}
use Rattle.lms_bytes.specs.MessageId.{message_id_bytes, message_id_of}

two-parts : (m n : ℕ) (body : List ℕ) → length body ≡ m + n → take m body ++ take n (drop m body) ≡ body
two-parts m n body size =
    ap (λ (back : List ℕ). take m body ++ back) (take_all n (drop m body) (omega (arith, length-drop m body))) ∙ take-append-drop m body

from-parts : (body : List ℕ) → length body ≡ 36 → ((i : ℕ) → get_or (take 4 body) i 0 < 256) → message_id_bytes (message_id_of body) ≡ body
from-parts body size small =
    let four = take 4 body in
    let is_four : length four ≡ 4 = omega (arith, length-take 4 body) in
    ap (λ (front : List ℕ). front ++ take 32 (drop 4 body)) (be_bytes_4 four _ is_four small refl) ∙ two-parts 4 32 body size

four-small : (a b c d i : ℕ) → a < 256 → b < 256 → c < 256 → d < 256 → get_or (a ∷ b ∷ c ∷ d ∷ []) i 0 < 256
four-small a b c d zero ha hb hc hd = ha
four-small a b c d (suc zero) ha hb hc hd = hb
four-small a b c d (suc (suc zero)) ha hb hc hd = hc
four-small a b c d (suc (suc (suc zero))) ha hb hc hd = hd
four-small a b c d (suc (suc (suc (suc i)))) ha hb hc hd = omega arith

-- the bytes of an id stand for an id with these bytes
pub back : (n : ℕ) (hash : List ℕ) → length hash ≡ 32 → message_id_bytes (message_id_of (u32str n ++ hash)) ≡ u32str n ++ hash
back n hash size =
    from-parts (u32str n ++ hash) (omega (arith, size, length-append (u32str n) hash))
    (λ i. four-small (n / 16777216 % 256) (n / 65536 % 256) (n / 256 % 256) (n % 256) i (omega arith) (omega arith) (omega arith) (omega arith))

-- the first byte after the front is written
pub set-seam : (front rest : List ℕ) (x y : ℕ) → set (front ++ x ∷ rest) (length front) y ≡ front ++ y ∷ rest
set-seam [] rest x y = refl
set-seam (z ∷ front) rest x y = ap (λ (l : List ℕ). z ∷ l) (set-seam front rest x y)
