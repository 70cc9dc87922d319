-- Words that are numbers.
use Rattle.std.proofs.Common.{◌≡◌, ◌≤◌, ◌<◌, ◌^◌, ℕ, Bool, true, false, ◌&&◌, nat_le, nat_lt, leb-true, le-leb, lt-ltb, ltb-true, List, [], ◌∷◌, length, Some, None, if◌then◌else◌, refl, ap, arith}
use Rattle.std.specs.Prelude.{Result, Ok, Err}
use Rattle.std.specs.Char.{is_ascii_digit}
use Rattle.std.specs.List.{list_all}
use Rattle.std.specs.Result.{result_ok}
use Rattle.std.specs.Str.{all_ascii_digits}
use Rattle.std.specs.Str.Parse.{ParsesUnsigned, digits_value}
use Rattle.std.proofs.lemmas.Str.Parse.{numerals_by_value, parse_digits, tells_all_ascii_digits}
use Rattle.tool_words.specs.Words.{number_of}

pub all_digits : (word : List ℕ) → all_ascii_digits word ≡ list_all is_ascii_digit word
all_digits [] = refl
all_digits (c ∷ word) = ap (λ b. is_ascii_digit c && b) (all_digits word)

-- one of four tests fails
none_of : (a b c d : Bool) (x : ℕ) → (a ≡ true → b ≡ true → c ≡ true → d ≡ true → ⊥) → None ≡ (if a && b && c && d then Some x else None)
none_of false b c d x fails = refl
none_of true false c d x fails = refl
none_of true true false d x fails = refl
none_of true true true false x fails = refl
none_of true true true true x fails = absurd (fails refl refl refl refl)

pub number_read : {E : Type 0} (word : List ℕ) (r : Result ℕ E) → ParsesUnsigned 32 10 word r → all_ascii_digits word ≡ true → length word ≤ 10
    → result_ok r ≡ number_of word
unfolding number_of
number_read {E} word (Ok x) h all short =
    let k = parse_digits (numerals_by_value _ tells_all_ascii_digits) {E = E} 32 word (Ok x) h all in
    let some : nat_le 1 (length word) ≡ true = le-leb 1 (length word) k.0.0 in
    let small : nat_le (length word) 10 ≡ true = le-leb (length word) 10 short in
    let fits : nat_lt (digits_value 10 word) (2 ^ 32) ≡ true = lt-ltb (digits_value 10 word) (2 ^ 32) k.0.1 in
    rw (some, small, all, fits) (ap Some k.1)
number_read {E} word (Err e) h all short =
    let none = parse_digits (numerals_by_value _ tells_all_ascii_digits) {E = E} 32 word (Err e) h all in
    none_of (nat_le 1 (length word)) (nat_le (length word) 10) (all_ascii_digits word) (nat_lt (digits_value 10 word) (2 ^ 32)) (digits_value 10 word)
    (λ some _ _ fits. none (leb-true 1 (length word) some, ltb-true (digits_value 10 word) (2 ^ 32) fits))

pub long_none : (word : List ℕ) → 10 < length word → None ≡ number_of word
unfolding number_of
long_none word long =
    none_of (nat_le 1 (length word)) (nat_le (length word) 10) (all_ascii_digits word) (nat_lt (digits_value 10 word) (2 ^ 32)) (digits_value 10 word)
    (λ _ small _ _. let short = leb-true (length word) 10 small in omega arith)

pub other_none : (word : List ℕ) → list_all is_ascii_digit word ≡ false → None ≡ number_of word
unfolding number_of
other_none word other =
    none_of (nat_le 1 (length word)) (nat_le (length word) 10) (all_ascii_digits word) (nat_lt (digits_value 10 word) (2 ^ 32)) (digits_value 10 word)
    (λ _ _ all _. let same = all_digits word in absurd (cc))
