-- Sets of trustees, each seen as the list of its trustees in ascending order.
use Rattle.std.specs.Prelude.{ℕ, zero, suc, ◌<◌, ◌≤◌, nat_lt, filter, ◌+◌, ◌-◌, ◌/◌, ◌%◌, ◌^◌, ◌==◌, if◌then◌else◌}
use Rattle.std.specs.Prelude.{List, [], ◌∷◌, ◌++◌}

-- this project's profile: those of the trustees a .. a + count - 1 whose bit is set, the lowest bit standing for a
unfoldable pub trustees_from : ℕ → ℕ → ℕ → List ℕ
trustees_from a zero bits = []
trustees_from a (suc count) bits =
    (if bits % 2 == 1 then a ∷ [] else []) ++ trustees_from (a + 1) count (bits / 2)

-- this project's profile: the trustees of a word of 16 bits, trustee t at bit t - 1
unfoldable pub member_numbers : ℕ → List ℕ
member_numbers bits = trustees_from 1 16 bits

-- this project's profile: the word that has bit t - 1 for each trustee t
unfoldable pub bits_of : List ℕ → ℕ
bits_of [] = 0
bits_of (t ∷ ts) = 2 ^ (t - 1) + bits_of ts

-- numbers that ascend, from a on and below e
abbrev pub IsAscendingIn : ℕ → ℕ → List ℕ → Type 0
IsAscendingIn a e [] = Unit {0}
IsAscendingIn a e (t ∷ ts) = (a ≤ t) × (t < e) × IsAscendingIn (t + 1) e ts

-- those of the trustees that come before trustee t
abbrev pub below : ℕ → List ℕ → List ℕ
below t trustees = filter (λ x. nat_lt x t) trustees
