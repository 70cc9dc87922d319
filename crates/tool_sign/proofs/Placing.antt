-- The trustees that have a place, one place after another.
use Rattle.std.proofs.Common.{◌≡◌, ◌<◌, ◌≤◌, ◌+◌, ◌-◌, ◌*◌, ◌%◌, ◌^◌, ℕ, suc, List, [], ◌∷◌, ◌++◌, true, false, Option, None, Some, is_some, option_map, map, take, length, get_or, refl, sym, ap, arith, pow-suc}
use Rattle.std.proofs.Math.Nat.{pow-le-pow_right}
use Rattle.std.proofs.lemmas.Bool.{false≢true}
use Rattle.std.proofs.lemmas.List.{append-nil, length-map, length-take, map-append, take_more}
use Rattle.coalition_map.specs.Members.{member_numbers}
use Rattle.coalition_map.proofs.MemberLaws.{member_numbers-push, member_numbers-zero}
use Rattle.tool_sign.specs.Members.{Placed, members_placed, placed, placed_from}

-- a trustee, if it has a place
pub one : ℕ → Option (List ℕ) → List Placed
one t None = []
one t (Some place) = record { member = t; place = place } ∷ []

placed_more : (t : ℕ) (places : List (Option (List ℕ))) (last : Option (List ℕ))
    → placed_from t (places ++ (last ∷ [])) ≡ placed_from t places ++ one (t + length places) last
unfolding placed_from one
placed_more t [] None = refl
placed_more t [] (Some place) = let here : t + 0 ≡ t = omega arith in rw here refl
placed_more t (None ∷ places) last =
    let next : t + suc (length places) ≡ t + 1 + length places = omega arith in
    rw next (placed_more (t + 1) places last)
placed_more t (Some place ∷ places) last =
    let next : t + suc (length places) ≡ t + 1 + length places = omega arith in
    rw next (ap (λ rest. record { member = t; place = place } ∷ rest) (placed_more (t + 1) places last))

-- one more place
pub placed_next : {Y : Type 0} (g : Y → List ℕ) (xs : List (Option Y)) (i : ℕ) → i < length xs
    → placed (map (option_map g) (take (i + 1) xs)) ≡ placed (map (option_map g) (take i xs)) ++ one (i + 1) (option_map g (get_or xs i None))
placed_next g xs i h =
    let here : 1 + length (map (option_map g) (take i xs)) ≡ i + 1 = omega (arith, h, length-map (take i xs) (option_map g), length-take i xs) in
    rw (take_more xs i None h, map-append, ← here) (placed_more 1 (map (option_map g) (take i xs)) (option_map g (get_or xs i None)))

twice_as : (i : ℕ) → 2 ^ (i + 1) ≡ 2 * 2 ^ i
twice_as i =
    let next : i + 1 ≡ suc i = omega arith in
    rw next (omega (arith, pow-suc 2 i))

-- an option with no value
pub is_none_of : {Y : Type 0} (x : Option Y) → ((y : Y) → x ≡ Some y → ⊥) → x ≡ None
is_none_of None never = refl
is_none_of (Some y) never = absurd (never y refl)

-- these are the bits of the members among the first i trustees
abbrev pub HasBits : {Y : Type 0} → (Y → List ℕ) → List (Option Y) → ℕ → ℕ → Type 0
HasBits g xs i bits = (bits < 2 ^ i) × (member_numbers bits ≡ members_placed (map (option_map g) (take i xs)))

pub bits_none : {Y : Type 0} (g : Y → List ℕ) (xs : List (Option Y)) → HasBits g xs 0 0
unfolding placed_from
bits_none g xs = (omega arith, member_numbers-zero)

pub bits_member : {Y : Type 0} (g : Y → List ℕ) (xs : List (Option Y)) (i bits now : ℕ) (x : Option Y) → get_or xs i None ≡ x → true ≡ is_some x
    → i < length xs → i < 12 → HasBits g xs i bits → now ≡ bits + (1 * 2 ^ i) % 65536 → HasBits g xs (i + 1) now
unfolding one
bits_member g xs i bits now None is some h few has grown = absurd (false≢true (sym some))
bits_member g xs i bits now (Some y) is some h few has grown =
    let below : i ≤ 11 = omega arith in
    let small : 2 ^ i ≤ 2 ^ 11 = pow-le-pow_right (omega arith) below in
    let twice : 2 ^ (i + 1) ≡ 2 * 2 ^ i = twice_as i in
    let now_is : now ≡ bits + 2 ^ i = omega (arith, grown, small) in
    let last : i + 1 - 1 ≡ i = omega arith in
    let pushed : member_numbers (bits + 2 ^ i) ≡ member_numbers bits ++ ((i + 1) ∷ []) =
    rw last at (member_numbers-push bits (i + 1) (omega arith) (omega arith) (rw last has.0)) in
    (omega (arith, now_is, twice, has.0), rw (now_is, pushed, has.1, placed_next g xs i h, is, map-append) refl)

pub bits_other : {Y : Type 0} (g : Y → List ℕ) (xs : List (Option Y)) (i bits now : ℕ) (x : Option Y) → get_or xs i None ≡ x → false ≡ is_some x
    → i < length xs → HasBits g xs i bits → now ≡ bits → HasBits g xs (i + 1) now
unfolding one
bits_other g xs i bits now None is none h has same =
    let twice : 2 ^ (i + 1) ≡ 2 * 2 ^ i = twice_as i in
    (omega (arith, same, twice, has.0), rw (same, has.1, placed_next g xs i h, is, append-nil) refl)
bits_other g xs i bits now (Some y) is none h has same = absurd (false≢true none)

-- the addresses of the first i trustees, and one more or none
pub address_more : {Y A : Type 0} (g : Y → List ℕ) (address : A → Placed) (xs : List (Option Y)) (i : ℕ) (y : Y) (before after : List A) (last : A)
    → i < length xs → get_or xs i None ≡ Some y → map address before ≡ placed (map (option_map g) (take i xs)) → after ≡ before ++ (last ∷ [])
    → address last ≡ record { member = i + 1; place = g y } → map address after ≡ placed (map (option_map g) (take (i + 1) xs))
unfolding one
address_more g address xs i y before after last h is so-far grown named = rw (grown, map-append, so-far, named, placed_next g xs i h, is) refl

pub address_none : {Y A : Type 0} (g : Y → List ℕ) (address : A → Placed) (xs : List (Option Y)) (i : ℕ) (before : List A)
    → i < length xs → get_or xs i None ≡ None → map address before ≡ placed (map (option_map g) (take i xs))
    → map address before ≡ placed (map (option_map g) (take (i + 1) xs))
unfolding one
address_none g address xs i before h is so-far = rw (placed_next g xs i h, is, append-nil) so-far
