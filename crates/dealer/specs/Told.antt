-- What is told of a dealing: how many of its leaves are built, after each part of them.
use Rattle.std.specs.Prelude.{◌≡◌, ◌⊎◌, ℕ, zero, suc, ◌*◌, ◌/◌, ◌^◌, Result, MatchResult, min}

-- what an object is once it was told of the first k parts, of `part` leaves each, out of `all` in all
unfoldable pub told_parts : {P : Type 0} → (P → ℕ → ℕ → P) → ℕ → ℕ → ℕ → P → P
told_parts told part all zero it = it
told_parts told part all (suc k) it = told (told_parts told part all k it) (suc k * part) all

-- what it is once it was told all of a dealing of height h: its leaves are built in parts of 512, or in one part if
-- there are fewer
unfoldable pub told_of : {P : Type 0} → (P → ℕ → ℕ → P) → ℕ → P → P
told_of told h it = let part = min 512 (2 ^ h) in told_parts told part (2 ^ h) (2 ^ h / part) it

-- If there is a dealing, all of it was told. If there is none, nothing was, or all of it if memory ran out, which is
-- what these faults say.
abbrev pub TellsLeaves : {P A F : Type 0} → (P → ℕ → ℕ → P) → ℕ → (F → Type 0) → Result A F → P → P → Type 0
TellsLeaves told h IsWant result old new = MatchResult result
    (λ _. new ≡ told_of told h old)
    (λ fault. (new ≡ old) ⊎ (IsWant fault × (new ≡ told_of told h old)))
