-- Parts of joined strings that are worked on one after the other.
use Rattle.std.proofs.Common.{◌≡◌, ℕ, ◌+◌, ◌-◌, ◌*◌, ◌<◌, ◌≤◌, List, ◌++◌, length, take, drop, refl, sym, ◌∙◌, ap, arith, add-one, length-take, length-take-le, length-drop, mul-zero, mul-suc}
use Rattle.std.proofs.lemmas.List.{drop-drop}
use Rattle.std.proofs.lemmas.Slice.{take-put_mid, drop-put_mid}
use borrow.Rule.Slice.PartMut.{put_mid}
use Rattle.lms_bytes.specs.Bytes.{bytes_at, joined}
use Rattle.lms_bytes.proofs.Joined.{front-more, joined-none, joined-more, row-fits}

-- a value is masked where the others before it are, and those after it are as they were
pub record IsMasking (f : ℕ → List ℕ) (first : List ℕ) (n i : ℕ) (out : List ℕ) : Type 0 where
  pub front : take (n * i) out ≡ joined f i
  pub rest : drop (n * i) out ≡ drop (n * i) first

pub masking-none : (f : ℕ → List ℕ) (n : ℕ) (out : List ℕ) → IsMasking f out n 0 out
masking-none f n out = let none : n * 0 ≡ 0 = mul-zero n in record { front = rw (none, joined-none f) refl; rest = refl }

pub masking-more : (f : ℕ → List ℕ) (first : List ℕ) (n i : ℕ) (old new v : List ℕ) → IsMasking f first n i old
    → (bytes_at first (n * i) n ≡ bytes_at old (n * i) n → v ≡ f i) → take (n * i + n) new ≡ take (n * i) old ++ v
    → drop (n * i + n) new ≡ drop (n * i + n) old → IsMasking f first n (i + 1) new
masking-more f first n i old new v before is written behind =
    let next : n * (i + 1) ≡ n * i + n = rw (add-one i) (mul-suc n i) in
    let here : bytes_at first (n * i) n ≡ bytes_at old (n * i) n = ap (take n) (sym before.rest) in
    record {
      front = rw (next, joined-more f i, ← is here, ← before.front) written;
      rest = rw next (behind ∙ rw (← drop-drop n (n * i) old, ← drop-drop n (n * i) first) (ap (drop n) before.rest));
    }

-- a part of n bytes that was worked on is back in its place
pub record IsPut (place n : ℕ) (old new part : List ℕ) : Type 0 where
  pub size : length part ≡ n
  pub front : take (place + n) new ≡ take place old ++ part
  pub behind : drop (place + n) new ≡ drop (place + n) old

pub span : (place n : ℕ) → place + n - place ≡ n
span place n = omega arith

pub put-part : (place n : ℕ) (old part : List ℕ) → place + n ≤ length old → length part ≡ length (take (place + n - place) (drop place old))
    → IsPut place n old (put_mid place (place + n - place) old part) part
put-part place n old part within sized =
    let inside : place ≤ length old = omega arith in
    let size : length part ≡ n = omega (arith, rw span at sized, length-take n (drop place old), length-drop place old) in
    record {
      size = size;
      front = take-put_mid place _ old part (place + n) (omega arith) inside;
      behind = drop-put_mid place _ old part (place + n) (omega arith) inside (omega arith);
    }

-- a part lies within as many parts
pub part-within : (size each i count room : ℕ) → size ≡ each → room ≡ each * count → i < count → size * i + size ≤ room
part-within size each i count room same all inside = rw (all, same) (row-fits each i count inside)

-- a part of a list is as long as was asked for
pub length_part : {X : Type 0} (place count : ℕ) (xs : List X) → place + count ≤ length xs → length (take (place + count - place) (drop place xs)) ≡ count
length_part place count xs within =
    let rest = length-drop place xs in
    length-take-le (place + count - place) (drop place xs) (omega (arith, rest, within)) ∙ omega arith

-- one more part is written after those before it
pub part-written : (f : ℕ → List ℕ) (size i : ℕ) (old part : List ℕ) → size * i + size ≤ length old
    → length part ≡ length (take (size * i + size - size * i) (drop (size * i) old)) → part ≡ f i → take (size * i) old ≡ joined f i
    → take (size * (i + 1)) (put_mid (size * i) (size * i + size - size * i) old part) ≡ joined f (i + 1)
part-written f size i old part within alike is before =
    let put = put-part (size * i) size old part within alike in
    front-more f size i old _ part is put.size before (rw put.size put.front)
