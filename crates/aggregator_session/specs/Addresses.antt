-- Where members are dialled.
use Rattle.std.specs.Prelude.{ℕ, ◌==◌, List, [], ◌∷◌, Option, Some, None, string_bytes, if◌then◌else◌}
use Rattle.aggregator_session.specs.declared.desk.Address.{Address}

-- the place in the first address that names this member
unfoldable pub place_of : List Address → ℕ → Option (List ℕ)
place_of [] member = None
place_of (address ∷ addresses) member =
    if address.member == member then Some (string_bytes address.place) else place_of addresses member
