-- One more piece of the bytes is read or written.
use Rattle.std.proofs.Common.{◌≡◌, ◌+◌, ◌≤◌, ◌++◌, ℕ, List, Result, Ok, Err, IfOk, length, take, drop, refl, ap, sym, ◌∙◌, arith, append_assoc, append-nil, take-add, take-take, drop-drop, length-drop, length-take-le}
use Rattle.std.proofs.Math.Seq.{take-append-add}
use Rattle.std.proofs.lemmas.Slice.{take-put_mid}
use borrow.Rule.Slice.PartMut.{put_mid}
use Rattle.stream_io.specs.Talk.{OnlyRead, OnlyWrote, Talk, Took}

pub grown : (xs was now bs piece : List ℕ) (at n : ℕ) → was ≡ xs ++ take at bs → piece ≡ drop at bs → now ≡ was ++ take n piece → now ≡ xs ++ take (at + n) bs
grown xs was now bs piece at n w e h =
    h ∙ ap (λ t. t ++ take n piece) w ∙ ap (λ t. (xs ++ take at bs) ++ take n t) e ∙ append_assoc xs (take at bs) (take n (drop at bs)) ∙ ap (λ t. xs ++ t) (sym (take-add at n bs))

pub only-same : (talk : Talk) → OnlyRead talk talk
only-same talk = record { told = refl; place = refl; written = refl; room = omega arith; count = omega arith }

pub only-then : (a b c : Talk) → OnlyRead a b → OnlyRead b c → OnlyRead a c
only-then a b c x y = record {
  told = y.told ∙ x.told;
  place = y.place ∙ x.place;
  written = y.written ∙ x.written;
  room = (let p = x.room in let q = y.room in omega arith);
  count = (let p = x.count in let q = y.count in omega arith);
}

pub wrote-same : (talk : Talk) → OnlyWrote talk talk
wrote-same talk = record { told = refl; place = refl; taken = refl; left = refl; count = omega arith }

pub wrote-then : (a b c : Talk) → OnlyWrote a b → OnlyWrote b c → OnlyWrote a c
wrote-then a b c x y = record {
  told = y.told ∙ x.told;
  place = y.place ∙ x.place;
  taken = y.taken ∙ x.taken;
  left = y.left ∙ x.left;
  count = (let p = x.count in let q = y.count in omega arith);
}

-- nothing was taken yet
pub took-none : (talk : Talk) → Took talk talk 0
took-none talk = record { there = omega arith; taken = sym (append-nil talk.taken); left = refl }

-- a piece of the rest, seen from the whole
pub piece : (m n : ℕ) (a b : Talk) → Took a b m → take m a.left ++ take n b.left ≡ take (m + n) a.left
piece m n a b x = ap (λ t. take m a.left ++ take n t) x.left ∙ sym (take-add m n a.left)

pub took-then : (m n : ℕ) (a b c : Talk) → Took a b m → Took b c n → Took a c (m + n)
took-then m n a b c x y = record {
  there = (let p = x.there in let q = y.there in let e = ap length x.left in grind (arith, length-drop, p, q, e));
  taken = y.taken ∙ ap (λ t. t ++ take n b.left) x.taken ∙ append_assoc a.taken (take m a.left) (take n b.left) ∙ ap (λ t. a.taken ++ t) (piece m n a b x);
  left = y.left ∙ ap (drop n) x.left ∙ drop-drop n m a.left;
}

pub if-both : {A E : Type 0} (r : Result A E) (P Q R : A → Type 0) → ((a : A) → P a → Q a → R a) → IfOk r P → IfOk r Q → IfOk r R
if-both (Ok a) P Q R f p q = f a p q
if-both (Err e) P Q R f p q = tt

-- the front of a room that was written after a place
pub part-front : (a k n : ℕ) (xs ys : List ℕ) → a + k ≤ length xs → length ys ≡ k → n ≤ k → take (a + n) (put_mid a k xs ys) ≡ take a xs ++ take n ys
part-front a k n xs ys fits long few =
    let front : take (a + length ys) (put_mid a k xs ys) ≡ take a xs ++ ys = take-put_mid a k xs ys (a + length ys) refl (omega arith) in
    let size : length (take a xs) ≡ a = length-take-le a xs (omega arith) in
    sym (take-take (a + n) (a + length ys) (put_mid a k xs ys) (omega arith)) ∙ ap (take (a + n)) front
    ∙ ap (λ m. take (m + n) (take a xs ++ ys)) (sym size) ∙ take-append-add (take a xs) ys n
