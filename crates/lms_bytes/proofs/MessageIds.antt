-- The bytes of a message id.
use Rattle.std.proofs.Common.{◌≡◌, ℕ, ◌+◌, ◌<◌, List, ◌++◌, length, get_or, take, drop, ◌∙◌, ap, arith, refl, inl, inr, length-take, length-drop, get_or-take}
use Rattle.std.proofs.lemmas.Bool.{cases_lt}
use Rattle.std.proofs.lemmas.List.{get_or_past, take-append-drop, take_all}
use Rattle.std.proofs.lemmas.Nat.{be_bytes_4}
use Rattle.lms_bytes.specs.MessageId.{message_id_bytes, message_id_of}

two-parts : (m n : ℕ) (bytes : List ℕ) → length bytes ≡ m + n → take m bytes ++ take n (drop m bytes) ≡ bytes
two-parts m n bytes size =
    ap (λ (back : List ℕ). take m bytes ++ back) (take_all n (drop m bytes) (omega (arith, length-drop m bytes)))
    ∙ take-append-drop m bytes

front-small : (m : ℕ) (bytes : List ℕ) → ((i : ℕ) → get_or bytes i 0 < 256) → (i : ℕ) → get_or (take m bytes) i 0 < 256
front-small m bytes small i = elim (cases_lt i m) [
  | inl below ↦ omega (arith, get_or-take m bytes i 0 below, small i)
  | inr past ↦ omega (arith, get_or_past (take m bytes) i 0 (omega (arith, length-take m bytes)))
]

pub bytes-of : (bytes : List ℕ) → length bytes ≡ 36 → ((i : ℕ) → get_or bytes i 0 < 256)
    → message_id_bytes (message_id_of bytes) ≡ bytes
bytes-of bytes size small =
    let four = take 4 bytes in
    let is_four : length four ≡ 4 = omega (arith, length-take 4 bytes) in
    ap (λ (front : List ℕ). front ++ take 32 (drop 4 bytes)) (be_bytes_4 four _ is_four (front-small 4 bytes small) refl)
    ∙ two-parts 4 32 bytes size
