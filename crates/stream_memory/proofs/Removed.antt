-- A list without one of its elements.
use Rattle.std.proofs.Common.{◌≡◌, ◌<◌, ◌≤◌, ◌+◌, ◌&&◌, ◌||◌, ℕ, zero, suc, Bool, true, false, cond, List, [], ◌∷◌, Option, Some, None, length, min, get_or, position, refl, sym, ap, ◌∙◌, arith}
use Rattle.std.proofs.lemmas.Iterator.Adapters.{position_from-zero}
use Rattle.std.proofs.lemmas.Slice.Eq.{bytes_eq-Decides}
use Rattle.std.specs.Str.{bytes_eq}
use Rattle.stream_memory.specs.Ports.{least}
use Rattle.std.specs.List.{list_all, list_any, position_from, remove}

pub any-removed : {X : Type 0} (p : X → Bool) (xs : List X) (i : ℕ) (d : X) → i < length xs → p (get_or xs i d) ≡ false → list_any p (remove xs i) ≡ list_any p xs
any-removed p [] i d lt fails = absurd (omega arith)
any-removed p (x ∷ xs) zero d lt fails = rw fails refl
any-removed p (x ∷ xs) (suc i) d lt fails = ap (λ t. p x || t) (any-removed p xs i d (omega arith) fails)

and-swap : (a b c : Bool) → (a && (b && c)) ≡ (b && (a && c))
and-swap true b c = refl
and-swap false true c = refl
and-swap false false c = refl

pub all-removed : {X : Type 0} (p : X → Bool) (xs : List X) (i : ℕ) (d : X) → i < length xs → list_all p xs ≡ (p (get_or xs i d) && list_all p (remove xs i))
all-removed p [] i d lt = absurd (omega arith)
all-removed p (x ∷ xs) zero d lt = refl
all-removed p (x ∷ xs) (suc i) d lt = ap (λ t. p x && t) (all-removed p xs i d (omega arith)) ∙ and-swap (p x) (p (get_or xs i d)) (list_all p (remove xs i))

pub least-removed : {X : Type 0} (room : X → ℕ) (xs : List X) (i : ℕ) (d : X) → i < length xs → least room xs ≡ min (room (get_or xs i d)) (least room (remove xs i))
least-removed room [] i d lt = absurd (omega arith)
least-removed room (x ∷ xs) zero d lt = refl
least-removed room (x ∷ xs) (suc i) d lt =
    let below = least-removed room xs i d (omega arith) in
    omega arith

none-step : (b any : Bool) (i : ℕ) (rest : Option ℕ) → cond b (Some i) rest ≡ None → (rest ≡ None → any ≡ false) → (b || any) ≡ false
none-step true any i rest e f = cc
none-step false any i rest e f = f e

none-from : {X : Type 0} (p : X → Bool) (xs : List X) (i : ℕ) → position_from p i xs ≡ None → list_any p xs ≡ false
none-from p [] i e = refl
none-from p (x ∷ xs) i e = none-step (p x) (list_any p xs) i (position_from p (i + 1) xs) e (none-from p xs (i + 1))

-- if no place is found, no element passes
pub none-passes : {X : Type 0} (p : X → Bool) (xs : List X) → position p xs ≡ None → list_any p xs ≡ false
none-passes p xs e = none-from p xs 0 (sym (position_from-zero p xs) ∙ e)

-- a name that is not another's is not at the other's place
pub elsewhere : (name place other : List ℕ) → bytes_eq name place ≡ true → bytes_eq other place ≡ false → bytes_eq name other ≡ false
elsewhere name place other here away = other-way (bytes_eq name other) refl where
  other-way : (b : Bool) → bytes_eq name other ≡ b → b ≡ false
  other-way false e = refl
  other-way true e =
      let same : name ≡ other = (bytes_eq-Decides name other).0 e in
      let there : bytes_eq other place ≡ true = ap (λ t. bytes_eq t place) (sym same) ∙ here in
      cc

-- A link goes from those that wait to those that were given: whether all are steady is as it was.
accepted-moves : (calm gave link waiting dialled : Bool) → ((calm && (gave && link)) && (waiting && dialled)) ≡ ((calm && gave) && ((link && waiting) && dialled))
accepted-moves false gave link waiting dialled = refl
accepted-moves true false link waiting dialled = refl
accepted-moves true true false waiting dialled = refl
accepted-moves true true true waiting dialled = refl

pub steady-accepted : (still calm gave link waiting waited dialled : Bool) → still ≡ calm → waited ≡ (link && waiting)
    → ((still && (gave && link)) && (waiting && dialled)) ≡ ((calm && gave) && (waited && dialled))
steady-accepted still calm gave link waiting waited dialled e f = rw (e, f) (accepted-moves calm gave link waiting dialled)

-- A link goes from those that wait to be dialled to those that were given.
dialled-moves : (calm gave link waiting dialled : Bool) → ((calm && (gave && link)) && (waiting && dialled)) ≡ ((calm && gave) && (waiting && (link && dialled)))
dialled-moves false gave link waiting dialled = refl
dialled-moves true false link waiting dialled = refl
dialled-moves true true true waiting dialled = refl
dialled-moves true true false true dialled = refl
dialled-moves true true false false dialled = refl

pub steady-dialled : (still calm gave link waiting dialled there : Bool) → still ≡ calm → there ≡ (link && dialled)
    → ((still && (gave && link)) && (waiting && dialled)) ≡ ((calm && gave) && (waiting && there))
steady-dialled still calm gave link waiting dialled there e f = rw (e, f) (dialled-moves calm gave link waiting dialled)

-- the link is among them
pub given : (calm gave link rest : Bool) → ((calm && (gave && link)) && rest) ≡ true → link ≡ true
given calm gave true rest e = refl
given false gave false rest e = cc
given true true false rest e = cc
given true false false rest e = cc

-- the room of the links that are left is no less, and neither is that of the link that was taken
pub rooms-left : (was left taken others : ℕ) → was ≡ min taken left → min was others ≤ min left others
rooms-left was left taken others is = omega (arith, is)

pub rooms-left_behind : (was left taken others : ℕ) → was ≡ min taken left → min others was ≤ min others left
rooms-left_behind was left taken others is = omega (arith, is)

pub room-taken : (was left taken others takes : ℕ) → was ≡ min taken left → takes ≡ taken → min was others ≤ takes
room-taken was left taken others takes is same = omega (arith, is, same)

pub room-taken_behind : (was left taken others takes : ℕ) → was ≡ min taken left → takes ≡ taken → min others was ≤ takes
room-taken_behind was left taken others takes is same = omega (arith, is, same)

pub no_less : (n : ℕ) → n ≤ n
no_less n = omega arith

pub no_less_still : (a b c : ℕ) → a ≤ b → b ≤ c → a ≤ c
no_less_still a b c first then = omega (arith, first, then)
