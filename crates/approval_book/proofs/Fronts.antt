-- What a book's slots list, by the front of them that is in memory.
use Rattle.std.proofs.Common.{◌≡◌, ℕ, zero, suc, ◌+◌, ◌-◌, ◌<◌, ◌≤◌, Bool, true, false, not, nat_lt, ◌||◌, cond, None, Some, List, [], ◌∷◌, ◌++◌, length, length-append, replicate, inl, inr, refl, ap, ◌∙◌, arith}
use Rattle.std.specs.List.{position_or_len}
use Rattle.std.proofs.lemmas.Bool.{cases_lt, lt-ltb, ltb-true}
use Rattle.std.proofs.lemmas.Option.{cond_some}
use Rattle.std.proofs.lemmas.List.Folds.{list_any-append}
use Rattle.std.proofs.lemmas.List.Sums.{sum_by-append}
use Rattle.slot_file.specs.Copies.{is_free, taken_count}
use Rattle.slot_file.specs.Lists.{IsFront}
use Rattle.slot_file.specs.declared.slot.Slot.{Slot}
use Rattle.slot_file.specs.declared.slot.Slot.TheVariants.{Free, Half, Full, Damaged}
use Rattle.approval_book.specs.Listed.{first_free, is_listed, lists}

none-listed : (n : ℕ) (id : List ℕ) → is_listed (replicate n Free) id ≡ false
none-listed zero id = refl
none-listed (suc n) id = none-listed n id

none-taken : (n : ℕ) → taken_count (replicate n Free) ≡ 0
none-taken zero = refl
none-taken (suc n) = none-taken n

or-false : (b : Bool) → (b || false) ≡ b
or-false true = refl
or-false false = refl

least-of-free : (n : ℕ) → position_or_len is_free (replicate n Free) ≡ 0
least-of-free zero = refl
least-of-free (suc n) = refl

-- the place of the least free slot, or that behind the front
least : (front : List Slot) (n : ℕ) → position_or_len is_free (front ++ replicate n Free) ≡ position_or_len is_free front
least [] n = least-of-free n
least (Free ∷ front) n = refl
least (Half a ∷ front) n = ap (λ (k : ℕ). 1 + k) (least front n)
least (Full a b moment ∷ front) n = ap (λ (k : ℕ). 1 + k) (least front n)
least (Damaged a b ∷ front) n = ap (λ (k : ℕ). 1 + k) (least front n)

least-most : (front : List Slot) → position_or_len is_free front ≤ length front
least-most [] = omega arith
least-most (Free ∷ front) = omega arith
least-most (Half a ∷ front) = let most = least-most front in omega arith
least-most (Full a b moment ∷ front) = let most = least-most front in omega arith
least-most (Damaged a b ∷ front) = let most = least-most front in omega arith

module _ (slots front : List Slot) (is : IsFront slots front) where
  pub front-listed : (id : List ℕ) → is_listed slots id ≡ is_listed front id
  front-listed id =
      let n = length slots - length front in
      ap (λ (l : List Slot). is_listed l id) is ∙ list_any-append (λ found. lists found id) front (replicate n Free)
      ∙ ap (λ (b : Bool). is_listed front id || b) (none-listed n id) ∙ or-false (is_listed front id)

  pub front-taken : taken_count slots ≡ taken_count front
  front-taken =
      let n = length slots - length front in
      let sums = sum_by-append (λ found. cond (not (is_free found)) 1 0) front (replicate n Free) in
      ap taken_count is ∙ omega (arith, sums, none-taken n)

  front-within : length front ≤ length slots
  front-within = omega (arith, ap length is, length-append front (replicate (length slots - length front) Free))

  least-is : first_free slots ≡ cond (nat_lt (position_or_len is_free front) (length slots)) (Some (position_or_len is_free front)) None
  least-is =
      let same : position_or_len is_free slots ≡ position_or_len is_free front = ap (position_or_len is_free) is ∙ least front (length slots - length front) in
      ap (λ (k : ℕ). cond (nat_lt k (length slots)) (Some k) None) same

  pub least-found : (place : ℕ) → first_free front ≡ Some place → first_free slots ≡ Some place
  least-found place found =
      let parts = cond_some _ _ place found in
      let below = ltb-true _ _ parts.0 in
      least-is ∙ rw (lt-ltb (position_or_len is_free front) (length slots) (omega (arith, below, front-within))) (ap Some parts.1)

  none-least : first_free front ≡ None → position_or_len is_free front ≡ length front
  none-least none = elim (cases_lt (position_or_len is_free front) (length front)) [
    | inl below ↦ let found = rw (lt-ltb (position_or_len is_free front) (length front) below) at none in absurd (cc)
    | inr behind ↦ let most = least-most front in omega arith
  ]

  pub least-behind : first_free front ≡ None → length front < length slots → first_free slots ≡ Some (length front)
  least-behind none more =
      least-is ∙ rw (none-least none, lt-ltb (length front) (length slots) more) refl
