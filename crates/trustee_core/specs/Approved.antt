-- A list of approved messages as contracts see it.
use Rattle.std.specs.Prelude.{ℕ, List, Bool, nat_eq}
use Rattle.std.specs.Cmp.Lexicographic.{pointwise}
use Rattle.std.specs.List.{list_any}
use Rattle.trustee_core.specs.declared.approved.Approved.{Approved}

-- their ids, each in its 36 bytes
abbrev pub ids_of : Approved → List (List ℕ)
ids_of approved = approved.ids.items

-- how many there is room for
abbrev pub room_of : Approved → ℕ
room_of approved = approved.ids.room

-- whether an id is among them
abbrev pub is_in : List (List ℕ) → List ℕ → Bool
is_in ids id = list_any (pointwise nat_eq id) ids
