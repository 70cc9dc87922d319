-- Members who can be dialled.
use Rattle.std.specs.Prelude.{◌≡◌, ℕ, Bool, false, List, [], ◌∷◌, IfSome, IsTrue}
use Rattle.std.specs.Str.{bytes_eq}
use Rattle.aggregator_session.specs.Addresses.{place_of}
use Rattle.aggregator_session.specs.declared.desk.Address.{Address}

-- none of these members is dialled at this place
abbrev pub Apart : List Address → List ℕ → List ℕ → Type 0
Apart addresses place [] = Unit {0}
Apart addresses place (member ∷ members) =
    IfSome (place_of addresses member) (λ other. bytes_eq other place ≡ false) × Apart addresses place members

-- at the place of each of these members somebody is there to be dialled, and no two have the same place
abbrev pub Reachable : List Address → (List ℕ → Bool) → List ℕ → Type 0
Reachable addresses reaches [] = Unit {0}
Reachable addresses reaches (member ∷ members) =
    IfSome (place_of addresses member) (λ place. IsTrue (reaches place) × Apart addresses place members)
    × Reachable addresses reaches members
