-- A key's block with a pad, for keys no longer than a block and for longer ones.
use Rattle.std.proofs.Common.{◌≡◌, ℕ, zero, suc, ◌+◌, ◌-◌, ◌<◌, ◌≤◌, List, [], ◌∷◌, ◌++◌, length, take, drop, set, get_or, map, replicate, bit_xor, nat_lt, false, true, refl, sym, ◌∙◌, ap, arith, zero-add, suc-add, take_all, take-append-drop, length-set}
use Rattle.std.proofs.lemmas.Bool.Decides.{nat_tests}
use Rattle.std.proofs.lemmas.List.{take_more_set, map_more, drop-set-lt, drop_more}
use Rattle.sha2.specs.Sha256.{sha256}
use Rattle.sha2.proofs.Facts256.{length-sha256}
use Rattle.lms_bytes.specs.Bytes.{xor}
use Rattle.mask_prf.specs.Hmac.{block_key, padded, hmac}

xor-zeros : (n by : ℕ) → xor (replicate n 0) (replicate n by) ≡ replicate n by
xor-zeros zero by = refl
xor-zeros (suc n) by = ap (λ t. by ∷ t) (xor-zeros n by)

xor-repeated : (s : List ℕ) (n by : ℕ) → xor (s ++ replicate n 0) (replicate (length s + n) by) ≡ map (λ x. bit_xor x by) s ++ replicate n by
xor-repeated [] n by = rw zero-add (xor-zeros n by)
xor-repeated (x ∷ s) n by = rw suc-add (ap (λ t. bit_xor x by ∷ t) (xor-repeated s n by))

xor-block : (s : List ℕ) (n by all : ℕ) → length s + n ≡ all → xor (s ++ replicate n 0) (replicate all by) ≡ map (λ x. bit_xor x by) s ++ replicate n by
xor-block s n by all e = rw (← e) (xor-repeated s n by)

padded-short : (key : List ℕ) (by : ℕ) → length key ≤ 64 → padded key by ≡ map (λ x. bit_xor x by) key ++ replicate (64 - length key) by
unfolding padded block_key
padded-short key by short =
    let test : nat_lt 64 (length key) ≡ false = grind (arith, nat_tests) in
    rw test (xor-block key (64 - length key) by 64 (omega arith))

-- a block whose first i bytes are those of the key, with the pad
pub record IsFilling (key out : List ℕ) (by i : ℕ) : Type 0 where
  pub size : length out ≡ 64
  pub done : take i out ≡ map (λ x. bit_xor x by) (take i key)
  pub left : drop i out ≡ replicate (64 - i) by

drop_one : (out : List ℕ) (by i n : ℕ) → i < length out → drop i out ≡ replicate (suc n) by → drop (i + 1) out ≡ replicate n by
drop_one out by i n inside e =
    let first = drop_more out i 0 inside in
    cc

pub filling_more : (key out : List ℕ) (by i : ℕ) → i < length key → length key ≤ 64 → IsFilling key out by i
    → IsFilling key (set out i (bit_xor (get_or key i 0) by)) by (i + 1)
filling_more key out by i inside short f =
    let size = f.size in
    let left : 64 - i ≡ suc (63 - i) = omega arith in
    let left' : 64 - (i + 1) ≡ 63 - i = omega arith in
    record {
      size = grind (arith, length-set);
      done = rw (take_more_set out i (bit_xor (get_or key i 0) by) (omega arith), f.done, map_more (λ x. bit_xor x by) key i 0 inside) refl;
      left = rw (drop-set-lt (i + 1) out i (bit_xor (get_or key i 0) by) (omega arith), left') (drop_one out by i (63 - i) (omega arith) (rw left at f.left));
    }

pub filled : (key out : List ℕ) (by : ℕ) → length key ≤ 64 → IsFilling key out by (length key) → out ≡ padded key by
filled key out by short f =
    let done = rw (take_all (length key) key (omega arith)) at f.done in
    sym (take-append-drop (length key) out) ∙ rw (padded-short key by short, done, f.left) refl

-- a longer key stands for its digest
pub hmac-long : (key text : List ℕ) → 64 < length key → hmac key text ≡ hmac (sha256 key) text
unfolding hmac padded block_key
hmac-long key text long =
    let test : nat_lt 64 (length key) ≡ true = grind (arith, nat_tests) in
    let hashed : nat_lt 64 (length (sha256 key)) ≡ false = grind (arith, nat_tests, length-sha256) in
    rw (test, hashed) refl
