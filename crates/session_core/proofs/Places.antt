-- Where seats are.
use Rattle.std.proofs.Common.{◌≡◌, ℕ, suc, ◌+◌, ◌<◌, ◌==◌, true, false, List, [], ◌∷◌, length, drop, get_or, refl, ◌∙◌, ap, arith}
use Rattle.std.proofs.lemmas.List.{drop_more}
use Rattle.std.proofs.lemmas.Bool.Decides.{nat_tests}
use Rattle.session_core.specs.Seats.{Seat, place_of}

pub place-nil : (t : ℕ) → place_of [] t ≡ 0
unfolding place_of
place-nil t = refl

pub place-here : (seat : Seat) (seats : List Seat) (t : ℕ) → seat.member ≡ t → place_of (seat ∷ seats) t ≡ 0
unfolding place_of
place-here seat seats t same =
    let test : seat.member == t ≡ true = grind (arith, nat_tests) in
    rw test refl

pub place-later : (seat : Seat) (seats : List Seat) (t : ℕ) → (seat.member ≡ t → ⊥) → place_of (seat ∷ seats) t ≡ suc (place_of seats t)
unfolding place_of
place-later seat seats t other =
    let test : seat.member == t ≡ false = grind (arith, nat_tests) in
    rw test refl

-- the places of the seats from i on, found by a search that has not met the member before
abbrev pub IsSearching : List Seat → ℕ → ℕ → Type 0
IsSearching seats t i = i + place_of (drop i seats) t ≡ place_of seats t

pub searching-here : (seats : List Seat) (t i : ℕ) (d : Seat) → i < length seats → IsSearching seats t i → (get_or seats i d).member ≡ t → i ≡ place_of seats t
searching-here seats t i d inside before same =
    let parts = drop_more seats i d inside in
    let here : place_of (drop i seats) t ≡ 0 = ap (λ (l : List Seat). place_of l t) parts ∙ place-here (get_or seats i d) (drop (i + 1) seats) t same in
    omega arith

pub searching-later : (seats : List Seat) (t i : ℕ) (d : Seat) → i < length seats → IsSearching seats t i → ((get_or seats i d).member ≡ t → ⊥) → IsSearching seats t (i + 1)
searching-later seats t i d inside before other =
    let parts = drop_more seats i d inside in
    let next : place_of (drop i seats) t ≡ suc (place_of (drop (i + 1) seats) t) = ap (λ (l : List Seat). place_of l t) parts ∙ place-later (get_or seats i d) (drop (i + 1) seats) t other in
    omega arith
