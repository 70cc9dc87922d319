-- Parts of a string, one after another.
use Rattle.std.proofs.Common.{◌≡◌, ℕ, ◌+◌, ◌-◌, ◌<◌, ◌≤◌, List, ◌++◌, length, get_or, drop, refl, sym, ap, ◌∙◌, inl, inr, arith, length-take, length-drop, take_all}
use Rattle.std.proofs.lemmas.Bool.{cases_lt}
use Rattle.std.proofs.lemmas.List.{get_or-take, get_or-drop, get_or_past, drop-drop}
use Rattle.std.proofs.lemmas.Nat.{be_bytes_4}
use Rattle.std.proofs.Math.Seq.{take-add}
use Rattle.lms_bytes.specs.Bytes.{bytes_at, u32str, str_to_u32}

pub length-bytes_at : (s : List ℕ) (place count : ℕ) → place + count ≤ length s → length (bytes_at s place count) ≡ count
length-bytes_at s place count h = omega (arith, length-take count (drop place s), length-drop place s)

bytes_at-below : (s : List ℕ) (place count : ℕ) → ((i : ℕ) → get_or s i 0 < 256) → (i : ℕ) → get_or (bytes_at s place count) i 0 < 256
bytes_at-below s place count below i = elim (cases_lt i count) [
  | inl h ↦ rw (get_or-take count (drop place s) i 0 h, get_or-drop place s i 0) (below (place + i))
  | inr h ↦
      let past : length (bytes_at s place count) ≤ i = omega (arith, length-take count (drop place s)) in
      rw (get_or_past (bytes_at s place count) i 0 past) (omega arith)
]

-- the number in four bytes, written again
pub u32str-str_to_u32 : (s : List ℕ) (place x : ℕ) → place + 4 ≤ length s → ((i : ℕ) → get_or s i 0 < 256)
    → x ≡ str_to_u32 (bytes_at s place 4) → u32str x ≡ bytes_at s place 4
u32str-str_to_u32 s place x h below e =
    be_bytes_4 (bytes_at s place 4) x (length-bytes_at s place 4 h) (bytes_at-below s place 4 below) e

-- a part that begins where the front ends
front : (s : List ℕ) (count more : ℕ) → bytes_at s 0 count ++ bytes_at s count more ≡ bytes_at s 0 (count + more)
front s count more = sym (take-add count more s)

whole : (s : List ℕ) (count : ℕ) → length s ≡ count → s ≡ bytes_at s 0 count
whole s count e = sym (take_all count s (omega arith))

-- four parts that make up a whole string, like those of a public key
pub four_parts : (s a b c d : List ℕ) (n : ℕ) → length s ≡ 24 + n → a ≡ bytes_at s 0 4 → b ≡ bytes_at s 4 4
    → c ≡ bytes_at s 8 16 → d ≡ bytes_at s 24 n → s ≡ a ++ b ++ c ++ d
four_parts s a b c d n len is_a is_b is_c is_d =
    rw (is_a, is_b, is_c, is_d, front s 4 4, front s 8 16, front s 24 n) (whole s (24 + n) len)

-- six parts that make up a whole string, like those of a signature
pub six_parts : (s a b c d e f : List ℕ) (n m k : ℕ) → length s ≡ 12 + n + m + k → a ≡ bytes_at s 0 4 → b ≡ bytes_at s 4 4
    → c ≡ bytes_at s 8 n → d ≡ bytes_at s (8 + n) m → e ≡ bytes_at s (8 + n + m) 4 → f ≡ bytes_at s (8 + n + m + 4) k
    → s ≡ a ++ b ++ c ++ d ++ e ++ f
six_parts s a b c d e f n m k len is_a is_b is_c is_d is_e is_f =
    let all : length s ≡ 8 + n + m + 4 + k = omega arith in
    rw (is_a, is_b, is_c, is_d, is_e, is_f, front s 4 4, front s 8 n, front s (8 + n) m, front s (8 + n + m) 4, front s (8 + n + m + 4) k)
    (whole s (8 + n + m + 4 + k) all)

-- what agrees from a place on agrees from a later one on
pub deeper : (a b : List ℕ) (m n : ℕ) → drop m a ≡ drop m b → m ≤ n → drop n a ≡ drop n b
deeper a b m n e h =
    let k : m + (n - m) ≡ n = omega arith in
    let at_a : drop n a ≡ drop (n - m) (drop m a) = rw (drop-drop, k) refl in
    let at_b : drop n b ≡ drop (n - m) (drop m b) = rw (drop-drop, k) refl in
    at_a ∙ (ap (drop (n - m)) e ∙ sym at_b)
