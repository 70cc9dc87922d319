-- Every member whose place the words name has an address.
use Rattle.std.proofs.Common.{◌≡◌, ◌<◌, ℕ, zero, suc, ◌==◌, Bool, true, false, List, [], ◌∷◌, All, Some, None, length, map, get_or, refl, sym, ap, subst, ◌∙◌, arith}
use Rattle.std.proofs.lemmas.Bool.Decides.{nat_tests}
use Rattle.std.proofs.lemmas.List.Elements.{All-map}
use Rattle.std.specs.Prelude.{string_bytes}
use Rattle.aggregator_session.specs.Addresses.{place_of}
use Rattle.aggregator_session.specs.declared.desk.Address.{Address}
use Rattle.tool_sign.specs.Members.{Placed, address}

abbrev number : Address → ℕ
number one = one.member

place-first : (one : Address) (addresses : List Address) → place_of (one ∷ addresses) one.member ≡ Some (string_bytes one.place)
unfolding place_of
place-first one addresses =
    let same : one.member == one.member ≡ true = grind (arith, nat_tests) in
    rw same refl

place-next : (one : Address) (addresses : List Address) (member : ℕ) (test : Bool) → one.member == member ≡ test → (place_of addresses member ≡ None → ⊥) → place_of (one ∷ addresses) member ≡ None → ⊥
unfolding place_of
place-next one addresses member true is has missing =
    let there : place_of (one ∷ addresses) member ≡ Some (string_bytes one.place) = rw is refl in
    absurd (cc)
place-next one addresses member false is has missing =
    let there : place_of (one ∷ addresses) member ≡ place_of addresses member = rw is refl in
    has (sym there ∙ missing)

placed-at : (addresses : List Address) (i : ℕ) (d : Address) → i < length addresses → place_of addresses (get_or addresses i d).member ≡ None → ⊥
placed-at [] i d lt missing = absurd (omega arith)
placed-at (one ∷ addresses) zero d lt missing =
    let there = place-first one addresses in
    absurd (cc)
placed-at (one ∷ addresses) (suc i) d lt missing =
    let within : i < length addresses = omega arith in
    let member = (get_or addresses i d).member in
    place-next one addresses member (one.member == member) refl (placed-at addresses i d within) missing

numbers-of : (addresses : List Address) → map (λ (one : Placed). one.member) (map address addresses) ≡ map number addresses
numbers-of [] = refl
numbers-of (one ∷ addresses) = ap (λ (l : List ℕ). one.member ∷ l) (numbers-of addresses)

pub all-placed : (addresses : List Address) (places : List Placed) (members : List ℕ) → map address addresses ≡ places → map (λ (one : Placed). one.member) places ≡ members
    → All (λ t. place_of addresses t ≡ None → ⊥) members
all-placed addresses places members is theirs =
    let same : map number addresses ≡ members = sym (numbers-of addresses) ∙ (ap (map (λ (one : Placed). one.member)) is ∙ theirs) in
    subst (λ (l : List ℕ). All (λ t. place_of addresses t ≡ None → ⊥) l) same
    (All-map (λ t. place_of addresses t ≡ None → ⊥) number addresses (λ k d lt. placed-at addresses k d lt))
