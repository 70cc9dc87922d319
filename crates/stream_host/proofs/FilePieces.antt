-- One more piece of a file is read or written.
use Rattle.std.proofs.Common.{◌≡◌, ◌+◌, ◌-◌, ◌≤◌, ◌++◌, ℕ, Bool, List, Result, Ok, Err, OnErr, length, take, drop, max, refl, ap, sym, ◌∙◌, arith, take-take}
use Rattle.std.proofs.lemmas.List.{places, same_lists}
use Rattle.disk_trait.specs.Disks.{SameKind}
use Rattle.disk_trait.specs.Images.{written, Torn, Follows}
use Rattle.stream_io.specs.RawFiles.{Untouched}

module _ {F : Type 0} (told honest steady : F → Bool) (room : F → ℕ) where
  pub kind-then : (a b c : F) → SameKind told honest steady room a b → SameKind told honest steady room b c
      → SameKind told honest steady room a c
  kind-then a b c x y = record {
    told = y.told ∙ x.told;
    honest = y.honest ∙ x.honest;
    steady = y.steady ∙ x.steady;
    room = y.room ∙ x.room;
  }

module _ {F : Type 0} (told honest : F → Bool) (reads : F → List ℕ) (leaves : F → List ℕ → Type 0) (grown failed : F → Bool)
  where
    abbrev Same : F → F → Type 0
    Same = Untouched told honest reads leaves grown failed

    pub untouched-then : (a b c : F) → told b ≡ told a → honest b ≡ honest a → Same a b → Same b c → Same a c
    untouched-then a b c as_told as_honest x y = record {
      same = λ is. y.same (as_told ∙ is) ∙ x.same is;
      images = λ is image.
          let p = x.images is image in
          let q = y.images (as_honest ∙ is) image in
          ((λ i. p.0 (q.0 i)), (λ i. q.1 (p.1 i)));
      syncs = λ is.
          let p = x.syncs is in
          let q = y.syncs (as_told ∙ is) in
          record { grown = q.grown ∙ p.grown; failed = q.failed ∙ p.failed };
    }

-- one more piece that was read
pub read-then : (file : List ℕ) (at k n : ℕ)
    → take k (drop at file) ++ take n (drop (at + k) file) ≡ take (k + n) (drop at file)
read-then file at k n = same_lists _ _ (grind (arith, places)) (λ j d below. grind (arith, places))

pub read-more : (file now was out : List ℕ) (at k n place : ℕ) → now ≡ file → place ≡ at + k → was ≡ take k (drop at file)
    → out ≡ was ++ take n (drop place now) → out ≡ take (k + n) (drop at file)
read-more file now was out at k n place same is front more =
    more ∙ ap (λ t. t ++ take n (drop place now)) front ∙ ap (λ f. take k (drop at file) ++ take n (drop place f)) same
    ∙ ap (λ p. take k (drop at file) ++ take n (drop p file)) is ∙ read-then file at k n

-- a fact that holds whatever a call answers
pub on-err : {A E : Type 0} (result : Result A E) (P : Type 0) → P → OnErr result P
on-err (Ok value) P p = tt
on-err (Err fault) P p = p

-- a write of nothing
pub written-none : (file bytes : List ℕ) (at : ℕ) → at ≤ length file → written file at (take 0 bytes) ≡ file
written-none file bytes at within = same_lists _ _ (grind (arith, places)) (λ k d below. grind (arith, places))

module _ (file bytes : List ℕ) (at : ℕ) (within : at ≤ length file) where
  pub length-written : (k : ℕ) → k ≤ length bytes → length (written file at (take k bytes)) ≡ max (length file) (at + k)
  length-written k few = grind (arith, places)

  -- one more piece
  pub written-then : (k n : ℕ) → k + n ≤ length bytes
      → written (written file at (take k bytes)) (at + k) (take n (drop k bytes)) ≡ written file at (take (k + n) bytes)
  written-then k n few = same_lists _ _ (grind (arith, places)) (λ j d below. grind (arith, places))

  -- a part of a write
  pub written-torn : (k : ℕ) → k ≤ length bytes → Torn at (length bytes) file (written file at (take k bytes))
  written-torn k few = record {
    before = same_lists _ _ (grind (arith, places)) (λ j d below. grind (arith, places));
    after = same_lists _ _ (grind (arith, places)) (λ j d below. grind (arith, places));
    no_shorter = (let e = length-written k few in omega arith);
    no_longer = (let e = length-written k few in omega arith);
  }

pub torn-same : (at n : ℕ) (file : List ℕ) → Torn at n file file
torn-same at n file = record { before = refl; after = refl; no_shorter = omega arith; no_longer = omega arith }

-- the range of a piece lies in that of the whole
pub torn-wide : (at n k : ℕ) (x y : List ℕ) → k ≤ n → Torn (at + k) (n - k) x y → Torn at n x y
torn-wide at n k x y few torn =
    let ends : at + k + (n - k) ≡ at + n = omega arith in
    record {
      before = sym (take-take at (at + k) y (omega arith)) ∙ ap (take at) torn.before ∙ take-take at (at + k) x (omega arith);
      after = ap (λ e. drop e y) (sym ends) ∙ torn.after ∙ ap (λ e. drop e x) ends;
      no_shorter = torn.no_shorter;
      no_longer = (let e = torn.no_longer in omega arith);
    }

pub torn-then : (at n : ℕ) (x y z : List ℕ) → Torn at n x y → Torn at n y z → Torn at n x z
torn-then at n x y z p q = record {
  before = q.before ∙ p.before;
  after = q.after ∙ p.after;
  no_shorter = (let a = p.no_shorter in let b = q.no_shorter in omega arith);
  no_longer = (let a = p.no_longer in let b = q.no_longer in omega arith);
}

pub follows-same : (at n : ℕ) (images now : List ℕ → Type 0) → ((image : List ℕ) → now image → images image)
    → Follows (Torn at n) images now
follows-same at n images now are image is = (image, are image is, torn-same at n image)

pub follows-then : (at n k : ℕ) (a b c : List ℕ → Type 0) → k ≤ n → Follows (Torn at n) a b
    → Follows (Torn (at + k) (n - k)) b c → Follows (Torn at n) a c
follows-then at n k a b c few p q image is =
    let y = q image is in
    let x = p y.0 y.1 in
    (x.0, x.1, torn-then at n x.0 y.0 image x.2 (torn-wide at n k y.0 image few y.2))
