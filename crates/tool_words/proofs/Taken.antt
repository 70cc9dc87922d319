-- Five words that are taken from those of a command.
use Rattle.std.proofs.Common.{◌≡◌, ◌≤◌, ◌-◌, ℕ, List, [], ◌∷◌, length, map, get_or, take, drop, refl, arith}
use Rattle.std.proofs.lemmas.List.{take_rest}

-- five words and those after them, by the function that gives a word's bytes
joined : {A : Type 0} (f : A → List ℕ) (words : List A) (a b c d e : A) → 5 ≤ length words
    → a ≡ get_or words 0 a → b ≡ get_or words 1 b → c ≡ get_or words 2 c → d ≡ get_or words 3 d → e ≡ get_or words 4 e
    → f a ∷ f b ∷ f c ∷ f d ∷ f e ∷ map f (drop 5 words) ≡ map f words
joined f [] a b c d e long is-a is-b is-c is-d is-e = absurd (omega arith)
joined f (v ∷ []) a b c d e long is-a is-b is-c is-d is-e = absurd (omega arith)
joined f (v ∷ w ∷ []) a b c d e long is-a is-b is-c is-d is-e = absurd (omega arith)
joined f (v ∷ w ∷ x ∷ []) a b c d e long is-a is-b is-c is-d is-e = absurd (omega arith)
joined f (v ∷ w ∷ x ∷ y ∷ []) a b c d e long is-a is-b is-c is-d is-e = absurd (omega arith)
joined f (v ∷ w ∷ x ∷ y ∷ z ∷ more) a b c d e long is-a is-b is-c is-d is-e = rw (is-a, is-b, is-c, is-d, is-e) refl

-- the same, for as many words after them as there are
pub taken : {A : Type 0} (f : A → List ℕ) (words : List A) (a b c d e : A) → 5 ≤ length words
    → a ≡ get_or words 0 a → b ≡ get_or words 1 b → c ≡ get_or words 2 c → d ≡ get_or words 3 d → e ≡ get_or words 4 e
    → f a ∷ f b ∷ f c ∷ f d ∷ f e ∷ map f (take (length words - 5) (drop 5 words)) ≡ map f words
taken f words a b c d e long is-a is-b is-c is-d is-e =
    rw (take_rest words 5) (joined f words a b c d e long is-a is-b is-c is-d is-e)

-- the same words at the head of a list
pub five : (a a' b b' c c' d d' e e' : List ℕ) (rest : List (List ℕ)) → a ≡ a' → b ≡ b' → c ≡ c' → d ≡ d' → e ≡ e' → a ∷ b ∷ c ∷ d ∷ e ∷ rest ≡ a' ∷ b' ∷ c' ∷ d' ∷ e' ∷ rest
five a a' b b' c c' d d' e e' rest is-a is-b is-c is-d is-e = rw (is-a, is-b, is-c, is-d, is-e) refl
