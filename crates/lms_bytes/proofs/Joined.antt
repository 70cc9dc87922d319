-- Strings that are joined, and found again at their places.
use Rattle.std.proofs.Common.{◌≡◌, ℕ, zero, suc, ◌+◌, ◌*◌, ◌<◌, ◌≤◌, List, [], ◌++◌, length, take, drop, refl, sym, ◌∙◌, arith, inl, inr, add-one, length-append, length-drop, take_all, mul-zero, mul-suc, mul-le-mul_left}
use Rattle.std.proofs.lemmas.Bool.{cases_lt}
use Rattle.std.proofs.Math.Seq.{take-add, drop-append_seam}
use Rattle.std.proofs.lemmas.List.{take-append-le, drop-append-le, drop-drop}
use Rattle.lms_bytes.specs.Bytes.{bytes_at, joined}

pub joined-none : (f : ℕ → List ℕ) → joined f 0 ≡ []
unfolding joined
joined-none f = refl

pub joined-suc : (f : ℕ → List ℕ) (count : ℕ) → joined f (suc count) ≡ joined f count ++ f count
unfolding joined
joined-suc f count = refl

pub joined-more : (f : ℕ → List ℕ) (count : ℕ) → joined f (count + 1) ≡ joined f count ++ f count
joined-more f count = rw (add-one count) (joined-suc f count)

-- a row of n bytes lies within count rows
pub row-fits : (n i count : ℕ) → i < count → n * i + n ≤ n * count
row-fits n i count h = rw (← mul-suc n i) (mul-le-mul_left n h)

-- each of the first strings has this length
abbrev pub AllOfLength : (ℕ → List ℕ) → ℕ → ℕ → Type 0
AllOfLength f n count = (i : ℕ) → i < count → length (f i) ≡ n

pub length-joined : (f : ℕ → List ℕ) (n count : ℕ) → AllOfLength f n count → length (joined f count) ≡ n * count
length-joined f n zero sized = rw (joined-none f, mul-zero n) refl
length-joined f n (suc count) sized =
    let before = length-joined f n count (λ i h. sized i (omega arith)) in
    let last = sized count (omega arith) in
    rw (joined-suc f count, length-append (joined f count) (f count), before, last, mul-suc n count) (omega arith)

-- strings that are equal one by one are equal when joined
pub joined-same : (f g : ℕ → List ℕ) (count : ℕ) → ((i : ℕ) → i < count → f i ≡ g i) → joined f count ≡ joined g count
joined-same f g zero same = joined-none f ∙ sym (joined-none g)
joined-same f g (suc count) same =
    rw (joined-suc f count, joined-suc g count, joined-same f g count (λ i h. same i (omega arith)), same count (omega arith)) refl

-- a part that lies in the first of two strings, and one that is the second
pub part-left : (a b : List ℕ) (place n : ℕ) → place + n ≤ length a → bytes_at (a ++ b) place n ≡ bytes_at a place n
part-left a b place n inside =
    let rest : n ≤ length (drop place a) = omega (arith, length-drop place a) in
    rw (drop-append-le place a b (omega arith), take-append-le n (drop place a) b rest) refl

pub part-right : (a b : List ℕ) (place n : ℕ) → place ≡ length a → n ≡ length b → bytes_at (a ++ b) place n ≡ b
part-right a b place n here size = rw (here, size, drop-append_seam a b) (take_all (length b) b (omega arith))

-- where string i lies among joined strings of any lengths
record Lies (f : ℕ → List ℕ) (count i place n : ℕ) : Type 0 where
  within : place + n ≤ length (joined f count)
  found : bytes_at (joined f count) place n ≡ f i

lies : (f : ℕ → List ℕ) (count i place n : ℕ) → i < count → place ≡ length (joined f i) → n ≡ length (f i) → Lies f count i place n
lies f zero i place n inside at size = absurd (omega arith)
lies f (suc count) i place n inside at size =
    let all : length (joined f (suc count)) ≡ length (joined f count) + length (f count) = rw (joined-suc f count) (length-append (joined f count) (f count)) in
    elim (cases_lt i count) [
      | inl h ↦
          let before = lies f count i place n h at size in
          record {
            within = omega (arith, before.within);
            found = rw (joined-suc f count, part-left (joined f count) (f count) place n before.within) before.found;
          }
      | inr h ↦
          let same : i ≡ count = omega arith in
          let here : place ≡ length (joined f count) = rw same at at in
          let length_is : n ≡ length (f count) = rw same at size in
          record {
            within = omega arith;
            found = rw (joined-suc f count, same) (part-right (joined f count) (f count) place n here length_is);
          }
    ]

pub joined-lies : (f : ℕ → List ℕ) (count i place n : ℕ) → i < count → place ≡ length (joined f i) → n ≡ length (f i)
    → bytes_at (joined f count) place n ≡ f i
joined-lies f count i place n inside at size = (lies f count i place n inside at size).found

-- where it lies among strings of one length
pub joined-at : (f : ℕ → List ℕ) (n count i : ℕ) → AllOfLength f n count → i < count → bytes_at (joined f count) (n * i) n ≡ f i
joined-at f n count i sized inside =
    let front = length-joined f n i (λ k h. sized k (omega arith)) in
    joined-lies f count i (n * i) n inside (sym front) (sym (sized i inside))

-- a string equals its parts of n bytes, joined
pub joined-parts : (f : ℕ → List ℕ) (n place count : ℕ) (s : List ℕ)
    → ((i : ℕ) → i < count → bytes_at s (place + n * i) n ≡ f i) → bytes_at s place (n * count) ≡ joined f count
joined-parts f n place zero s part = rw (mul-zero n, joined-none f) refl
joined-parts f n place (suc count) s part =
    let front = joined-parts f n place count s (λ i h. part i (omega arith)) in
    let last = part count (omega arith) in
    let next : n * suc count ≡ n * count + n = mul-suc n count in
    rw (next, joined-suc f count, take-add (n * count) n (drop place s), drop-drop (n * count) place s, front, last) refl

-- one more string is written after those that are there
pub front-more : (f : ℕ → List ℕ) (n i : ℕ) (old new v : List ℕ) → v ≡ f i → length v ≡ n → take (n * i) old ≡ joined f i
    → take (n * i + length v) new ≡ take (n * i) old ++ v → take (n * (i + 1)) new ≡ joined f (i + 1)
front-more f n i old new v is sized before written =
    let next : n * (i + 1) ≡ n * i + length v = rw (sized, add-one i) (mul-suc n i) in
    rw (next, joined-more f i, ← is, ← before) written

-- the first string is written
pub front-first : (f : ℕ → List ℕ) (n : ℕ) (old new v : List ℕ) → v ≡ f 0 → length v ≡ n
    → take (0 + length v) new ≡ take 0 old ++ v → take (n * (0 + 1)) new ≡ joined f (0 + 1)
front-first f n old new v is sized written =
    let none : n * 0 ≡ 0 = mul-zero n in
    front-more f n 0 old new v is sized (rw (none, joined-none f) refl) (rw none written)

pub front-all : (f : ℕ → List ℕ) (n count : ℕ) (out : List ℕ) → length out ≡ n * count → take (n * count) out ≡ joined f count → out ≡ joined f count
front-all f n count out size front = sym (take_all (n * count) out (omega arith)) ∙ front
