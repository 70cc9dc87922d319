-- Leaves that are built in parts, one part after the other.
use Rattle.std.proofs.Common.{◌≡◌, ℕ, zero, suc, ◌+◌, ◌-◌, ◌*◌, ◌/◌, ◌^◌, ◌<◌, ◌≤◌, List, ◌++◌, length, take, min, inl, inr, refl, sym, ap, ◌∙◌, arith, add-one, append-nil, append_assoc, mul_assoc, mul_comm, mul-div_cancel, mul-le-mul_left, mul-le-mul_right, pow-add, pow_pos, suc-mul, take_all, zero-mul}
use Rattle.std.proofs.lemmas.Bool.{cases_lt}
use Rattle.std.proofs.lemmas.Nat.{pow_below}
use Rattle.lms_bytes.specs.Bytes.{joined}
use Rattle.lms_bytes.proofs.Joined.{joined-none, joined-suc}
use Rattle.reference_value.proofs.Parts.{part-within}
use Rattle.dealer.specs.Told.{told_of, told_parts}

-- as many parts as there are whole ones are all of it, if any number of them is
parts-cut : (part n all : ℕ) → 0 < part → n * part ≡ all → all / part * part ≡ all
parts-cut part n all some is = rw (← is) (ap (λ (k : ℕ). k * part) (mul-div_cancel n some))

-- the leaves of a tree are a part, or parts of 2 ^ m
parts-all : (m h : ℕ) → 2 ^ h / min (2 ^ m) (2 ^ h) * min (2 ^ m) (2 ^ h) ≡ 2 ^ h
parts-all m h = elim (cases_lt h m) [
  | inl low ↦
      let few = pow_below h m low in
      let some = pow_pos h in
      parts-cut (min (2 ^ m) (2 ^ h)) 1 (2 ^ h) (omega arith) (omega arith)
  | inr high ↦
      let some = pow_pos (h - m) in
      let each = pow_pos m in
      let height : h - m + m ≡ h = omega arith in
      let is : 2 ^ (h - m) * 2 ^ m ≡ 2 ^ h = sym (pow-add 2 (h - m) m) ∙ ap (λ (k : ℕ). 2 ^ k) height in
      let longer : 2 ^ m ≤ 2 ^ (h - m) * 2 ^ m = omega (arith, mul-le-mul_right (2 ^ m) some) in
      let full : min (2 ^ m) (2 ^ h) ≡ 2 ^ m = omega arith in
      parts-cut (min (2 ^ m) (2 ^ h)) (2 ^ (h - m)) (2 ^ h) (omega arith) (rw full is)
]

-- strings, and those after them, joined
pub joined-behind : (f : ℕ → List ℕ) (m n count : ℕ) → m + n ≡ count → joined f m ++ joined (λ i. f (m + i)) n ≡ joined f count
joined-behind f m zero count all =
    let whole : m ≡ count = omega arith in
    rw (joined-none (λ i. f (m + i)), append-nil (joined f m), whole) refl
joined-behind f m (suc n) count all =
    let before = joined-behind f m n (m + n) refl in
    let whole : suc (m + n) ≡ count = omega arith in
    rw (← whole, joined-suc (λ i. f (m + i)) n, joined-suc f (m + n), ← before)
    (sym (append_assoc (joined f m) (joined (λ i. f (m + i)) n) (f (m + n))))

-- the strings of all parts, joined
pub parts-joined : (f : ℕ → List ℕ) (part n count : ℕ) → n * part ≡ count → joined (λ k. joined (λ i. f (k * part + i)) part) n ≡ joined f count
parts-joined f part zero count all =
    let none : count ≡ 0 = sym all ∙ zero-mul part in
    rw none (joined-none (λ k. joined (λ i. f (k * part + i)) part) ∙ sym (joined-none f))
parts-joined f part (suc n) count all =
    let before = parts-joined f part n (n * part) refl in
    let last : n * part + part ≡ count = omega (arith, suc-mul n part, all) in
    rw (joined-suc (λ k. joined (λ i. f (k * part + i)) part) n, before) (joined-behind f (n * part) part count last)

-- of all leaves of a tree of height h, `part` make up a part, and parts make up all
pub record AreCut (h all part : ℕ) : Type 0 where
  pub whole : all ≡ 2 ^ h
  pub even : all / part * part ≡ all
  pub most : part ≤ all

-- so do parts of 2 ^ m leaves, or one if there are fewer
pub cut-of : (m : ℕ) {h all part : ℕ} → all ≡ 2 ^ h → part ≡ min (2 ^ m) all → AreCut h all part
cut-of m {h} whole size = record {
  whole = whole;
  even = rw (size, whole) (parts-all m h);
  most = omega (arith, size);
}

-- the room of all leaves is that of the parts
pub parts-room : {h all part : ℕ} (one each room : ℕ) → AreCut h all part → one ≡ each → room ≡ each * 2 ^ h → room ≡ one * part * (all / part)
parts-room {h} {all} {part} one each room cut same is =
    is ∙ (ap (λ (k : ℕ). each * k) (sym cut.whole ∙ (sym (cut.even) ∙ mul_comm (all / part) part))
    ∙ (sym (mul_assoc each part (all / part)) ∙ ap (λ (k : ℕ). k * part * (all / part)) (sym same)))

-- that of a part is no more than that
pub part-room : {h all part : ℕ} (one each room : ℕ) → AreCut h all part → one ≡ each → room ≡ each * 2 ^ h → one * part ≤ room
part-room {h} {all} {part} one each room cut same is =
    let most : part ≤ 2 ^ h = omega (arith, cut.most, cut.whole) in
    rw (same, is) (mul-le-mul_left each most)

-- a part lies within it
pub part-fits : {h all part : ℕ} (one each i room : ℕ) → AreCut h all part → one ≡ each → room ≡ each * 2 ^ h → i < all / part
    → one * part * i + one * part ≤ room
part-fits {h} {all} {part} one each i room cut same is inside =
    part-within (one * part) (one * part) i (all / part) room refl (parts-room one each room cut same is) inside

-- so do its leaves within all
pub leaves-fit : {h all part : ℕ} (i : ℕ) → AreCut h all part → i < all / part → i * part + part ≤ 2 ^ h
leaves-fit {h} {all} {part} i cut inside =
    let last : i * part + part ≤ all / part * part = rw (← suc-mul i part) (mul-le-mul_right part inside) in
    omega (arith, last, cut.even, cut.whole)

-- all leaves, once the last part of them was written
pub parts-written : {h all part : ℕ} (f : ℕ → List ℕ) (one each i : ℕ) (out : List ℕ) → AreCut h all part → one ≡ each → length out ≡ each * 2 ^ h
    → all / part ≤ i → i ≤ all / part → take (one * part * i) out ≡ joined (λ k. joined (λ j. f (k * part + j)) part) i → out ≡ joined f (2 ^ h)
parts-written {h} {all} {part} f one each i out cut same room last most taken =
    let end : i ≡ all / part = omega arith in
    let size : length out ≡ one * part * i = parts-room one each (length out) cut same room ∙ ap (λ (k : ℕ). one * part * k) (sym end) in
    let count : i * part ≡ 2 ^ h = ap (λ (k : ℕ). k * part) end ∙ (cut.even ∙ cut.whole) in
    sym (take_all (one * part * i) out (omega arith)) ∙ (taken ∙ parts-joined f part i (2 ^ h) count)

-- no part was told of yet
pub told-none : {P : Type 0} (told : P → ℕ → ℕ → P) (part all : ℕ) (it : P) → it ≡ told_parts told part all 0 it
unfolding told_parts
told-none told part all it = refl

-- one more part was told of
pub told-more : {P : Type 0} (told : P → ℕ → ℕ → P) (part all k : ℕ) (it old new : P) → old ≡ told_parts told part all k it
    → new ≡ told old (k * part + part) all → new ≡ told_parts told part all (k + 1) it
unfolding told_parts
told-more told part all k it old new before is =
    is ∙ rw (add-one k, suc-mul k part, ← before) refl

-- all parts of 512 leaves were told of
pub told-all : {P : Type 0} {all part : ℕ} (told : P → ℕ → ℕ → P) (h i : ℕ) (it new : P) → all ≡ 2 ^ h → part ≡ min 512 all → all / part ≤ i → i ≤ all / part
    → new ≡ told_parts told part all i it → new ≡ told_of told h it
unfolding told_of
told-all {P} {all} {part} told h i it new whole size last most is =
    let end : i ≡ all / part = omega arith in
    rw (end, size, whole) at is
