-- How many workers are left, and the room for what they give back.
use Rattle.std.proofs.Common.{◌≡◌, ◌+◌, ◌≤◌, ◌<◌, ℕ, List, [], ◌∷◌, ◌++◌, length, ap, arith, length-append}

pub some-never : {many : ℕ} → 1 ≤ many → many ≡ 0 → ⊥
some-never some none = absurd (omega (arith, some, none))

pub room-first : {had many room : ℕ} → had ≡ 0 → many ≤ room → 1 ≤ many → had < room
room-first none fits some = omega (arith, none, fits, some)

pub room-next : {had left room : ℕ} (rest : ℕ) → had + left ≤ room → rest + 1 ≡ left → had < room
room-next rest fits one = omega (arith, fits, one)

pub all-in : {had left many : ℕ} → had + left ≡ many → left ≡ 0 → had ≡ many
all-in sum none = omega (arith, sum, none)

pub one-fewer : {W : Type 0} (all workers : List W) (worker : W) → all ≡ workers ++ worker ∷ [] → length workers < length all
one-fewer all workers worker is = let sizes = ap length is in omega (arith, sizes, length-append workers (worker ∷ []))

-- the numbers of what is left and of what came back, at the first worker and at one more
pub count-one : {back had all : ℕ} (rest : ℕ) → back ≡ had + 1 → had ≡ 0 → rest + 1 ≡ all → back + rest ≡ all
count-one rest one none fewer = omega (arith, one, none, fewer)

pub room-one : {back had all old new : ℕ} (rest : ℕ) → back ≡ had + 1 → had ≡ 0 → rest + 1 ≡ all → all ≤ old → new ≡ old → back + rest ≤ new
room-one rest one none fewer fits same = omega (arith, one, none, fewer, fits, same)

pub count-more : {back left all : ℕ} (had rest : ℕ) → had + left ≡ all → back ≡ had + 1 → rest + 1 ≡ left → back + rest ≡ all
count-more had rest sum one fewer = omega (arith, sum, one, fewer)

pub room-more : {back left old new : ℕ} (had rest : ℕ) → had + left ≤ old → back ≡ had + 1 → rest + 1 ≡ left → new ≡ old → back + rest ≤ new
room-more had rest fits one fewer same = omega (arith, fits, one, fewer, same)
