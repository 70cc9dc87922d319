-- What is counted over the sessions of a drill, and over the leaves of its table.
use Rattle.std.specs.Prelude.{ℕ, zero, suc, ◌+◌, ◌%◌, ◌==◌, List, length, slice_index_or, if◌then◌else◌}
use Rattle.leaf_table.specs.Entries.{LeafUse, IsFree, IsLeased, IsBurnt, IsTorn}
use Rattle.drill.specs.declared.seat.Seat.{Seat}
use Rattle.drill.specs.declared.seat.Seat.TheVariants.{Waiting, Running, Signed, Refused}

-- the sum of the values below a number
unfoldable pub sum_below : (ℕ → ℕ) → ℕ → ℕ
sum_below value zero = 0
sum_below value (suc i) = sum_below value i + value i

-- the same for the values of coalition c alone
abbrev pub sum_in : ℕ → (ℕ → ℕ) → ℕ → ℕ
sum_in c value count = sum_below (λ i. if i % 3 == c then value i else 0) count

-- 1 for a session that has a leaf: it runs or has signed
abbrev pub holds : Seat → ℕ
holds Waiting = 0
holds (Running s) = 1
holds (Signed leaf) = 1
holds Refused = 0

-- 1 for a session that has signed
abbrev pub signs : Seat → ℕ
signs Waiting = 0
signs (Running s) = 0
signs (Signed leaf) = 1
signs Refused = 0

-- 1 for a leaf that is free
abbrev pub is_open : LeafUse → ℕ
is_open IsFree = 1
is_open (IsLeased message) = 0
is_open IsBurnt = 0
is_open IsTorn = 0

-- how many sessions of coalition c have a leaf
abbrev pub held_by : ℕ → List Seat → ℕ
held_by c seats = sum_in c (λ i. holds (slice_index_or seats i Refused)) (length seats)

-- how many sessions have signed
abbrev pub signed_in : List Seat → ℕ
signed_in seats = sum_below (λ i. signs (slice_index_or seats i Refused)) (length seats)

-- how many leaves of coalition c are free
abbrev pub free_of : ℕ → (ℕ → LeafUse) → ℕ
free_of c map = sum_in c (λ q. is_open (map q)) 32
