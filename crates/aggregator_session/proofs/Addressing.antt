-- Where addresses stand.
use Rattle.std.proofs.Common.{◌≡◌, ℕ, ◌+◌, ◌<◌, ◌≤◌, ◌==◌, true, false, List, [], ◌∷◌, length, drop, get_or, Some, None, string_bytes, refl, sym, ◌∙◌, ap, arith}
use Rattle.std.proofs.lemmas.List.{drop_more, drop_all}
use Rattle.std.proofs.lemmas.Bool.Decides.{nat_tests}
use Rattle.aggregator_session.specs.Addresses.{place_of}
use Rattle.aggregator_session.specs.declared.desk.Address.{Address}

place-here : (a : Address) (later : List Address) (t : ℕ) → a.member ≡ t → place_of (a ∷ later) t ≡ Some (string_bytes a.place)
unfolding place_of
place-here a later t same =
    let test : a.member == t ≡ true = grind (arith, nat_tests) in
    rw test refl

place-later : (a : Address) (later : List Address) (t : ℕ) → (a.member ≡ t → ⊥) → place_of (a ∷ later) t ≡ place_of later t
unfolding place_of
place-later a later t other =
    let test : a.member == t ≡ false = grind (arith, nat_tests) in
    rw test refl

place-none : (t : ℕ) → place_of [] t ≡ None
unfolding place_of
place-none t = refl

-- the addresses before number i do not name the member
abbrev pub IsSearching : List Address → ℕ → ℕ → Type 0
IsSearching later t i = place_of (drop i later) t ≡ place_of later t

pub found-here : (all : List Address) (t i : ℕ) (a : Address) → i < length all → a ≡ get_or all i a → IsSearching all t i → a.member ≡ t → place_of all t ≡ Some (string_bytes a.place)
found-here all t i a inside is before same =
    let parts : drop i all ≡ a ∷ drop (i + 1) all = drop_more all i a inside ∙ ap (λ (x : Address). x ∷ drop (i + 1) all) (sym is) in
    sym before ∙ ap (λ (l : List Address). place_of l t) parts ∙ place-here a (drop (i + 1) all) t same

pub found-later : (all : List Address) (t i : ℕ) (a : Address) → i < length all → a ≡ get_or all i a → IsSearching all t i → (a.member ≡ t → ⊥) → IsSearching all t (i + 1)
found-later all t i a inside is before other =
    let parts : drop i all ≡ a ∷ drop (i + 1) all = drop_more all i a inside ∙ ap (λ (x : Address). x ∷ drop (i + 1) all) (sym is) in
    sym (place-later a (drop (i + 1) all) t other) ∙ sym (ap (λ (l : List Address). place_of l t) parts) ∙ before

pub found-none : (all : List Address) (t i : ℕ) → length all ≤ i → IsSearching all t i → place_of all t ≡ None
found-none all t i none before = sym before ∙ ap (λ (l : List Address). place_of l t) (drop_all i all none) ∙ place-none t
