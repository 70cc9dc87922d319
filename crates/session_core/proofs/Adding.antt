-- A string to which another is added, byte by byte.
use Rattle.std.proofs.Common.{◌≡◌, ℕ, ◌+◌, ◌<◌, List, length, take, drop, set, get_or, bit_xor, refl, sym, ◌∙◌, arith, length-set}
use Rattle.std.proofs.lemmas.List.{take_more_set, drop-set-lt, drop_more}
use Rattle.lms_bytes.specs.Bytes.{xor}
use Rattle.lms_bytes.proofs.Xor.{xor_take_more}

-- the first i bytes are added, and those after them are as they were
pub record IsAdding (old body out : List ℕ) (i : ℕ) : Type 0 where
  pub size : length out ≡ length old
  pub done : take i out ≡ xor (take i old) (take i body)
  pub rest : drop i out ≡ drop i old

heads : (a b : List ℕ) (i : ℕ) → i < length a → i < length b → drop i a ≡ drop i b → (get_or a i 0 ≡ get_or b i 0) × (drop (i + 1) a ≡ drop (i + 1) b)
heads a b i in-a in-b same =
    let of-a = drop_more a i 0 in-a in
    let of-b = drop_more b i 0 in-b in
    let both = sym of-a ∙ (same ∙ of-b) in
    (cc, cc)

pub adding-more : (old body out : List ℕ) (i : ℕ) → i < length body → length body ≡ length old → IsAdding old body out i
    → IsAdding old body (set out i (bit_xor (get_or out i 0) (get_or body i 0))) (i + 1)
adding-more old body out i inside even a =
    let size = a.size in
    let here = heads out old i (omega arith) (omega arith) a.rest in
    record {
      size = length-set out i _ ∙ size;
      done = rw (take_more_set out i (bit_xor (get_or out i 0) (get_or body i 0)) (omega arith), a.done, xor_take_more i old body (omega arith) inside, here.0) refl;
      rest = rw (drop-set-lt (i + 1) out i (bit_xor (get_or out i 0) (get_or body i 0)) (omega arith)) here.1;
    }
