-- Values that are computed one after the other.
use Rattle.std.proofs.Common.{◌≡◌, ℕ, zero, suc, ◌+◌, ◌<◌, List, [], ◌∷◌, ◌++◌, length, map, get_or, take, drop, subst, refl, sym, ap, ◌∙◌, arith}
use Rattle.std.specs.Prelude.{All}
use Rattle.std.specs.List.{range_with_len}
use Rattle.std.proofs.lemmas.List.{take_at}
use Rattle.std.proofs.lemmas.List.Elements.{All-append, All-cons, All-nil}
use Rattle.std.proofs.lemmas.List.FromFn.{map-range_with_len_more}

-- one more number at the end
pub range_push : (a n : ℕ) → range_with_len a (suc n) ≡ range_with_len a n ++ (a + n) ∷ []
range_push a zero = let e : a + 0 ≡ a = omega arith in rw e refl
range_push a (suc n) = let e : a + suc n ≡ a + 1 + n = omega arith in rw e (ap (λ l. a ∷ l) (range_push (a + 1) n))

-- one more value at the end
pub mapped_more : (f : ℕ → List ℕ) (a count j : ℕ) (old new : List (List ℕ)) (value : List ℕ) → a + count ≡ j
    → old ≡ map f (range_with_len a count) → value ≡ f j → new ≡ old ++ value ∷ [] → new ≡ map f (range_with_len a (count + 1))
mapped_more f a count j old new value at before is pushed =
    rw (pushed, before, is, map-range_with_len_more f a count j at) refl

-- one more element that is as the others are
pub all_more : {X : Type 0} (P : X → Type 0) (old new : List X) (x : X) → All P old → P x → new ≡ old ++ x ∷ [] → All P new
all_more P old new x before this pushed = rw pushed (All-append P old (x ∷ []) before (All-cons P x [] this (All-nil P)))

-- what holds of all elements holds of the one that was read
pub at_read : {X : Type 0} (P : X → Type 0) (xs : List X) (i : ℕ) (x : X) → All P xs → x ≡ get_or xs i x → i < length xs → P x
at_read P xs i x all read within = subst P (sym read) (all i x within)

-- what was written over the whole slice of a Vec is what it holds
pub over_all : {X : Type 0} (count : ℕ) (out old is : List X) → length out ≡ count → out ≡ is → take count (out ++ drop (length out) old) ≡ is
over_all count out old is size e = take_at out (drop (length out) old) count size ∙ e

pub length_over : {X : Type 0} (count : ℕ) (out old : List X) → length out ≡ count → length (take count (out ++ drop (length out) old)) ≡ count
length_over count out old size = ap length (take_at out (drop (length out) old) count size) ∙ size
