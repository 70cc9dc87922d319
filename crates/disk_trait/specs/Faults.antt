-- Counts of faults: a call that refuses because the outside failed has raised one, and no other call has.
use Rattle.std.specs.Prelude.{◌≡◌, ◌≢◌, ℕ, ◌+◌, ◌-◌, ◌^◌, ◌≤◌, min, Result, OnOk, OnErr}

-- a count of u64 rose, or stands at its end
abbrev pub Rose : ℕ → ℕ → Type 0
Rose before now = min (before + 1) (2 ^ 64 - 1) ≤ now

-- what a call makes of a count, by its result: it never falls, and rises if the call fails and not otherwise
pub record HasCause {T E : Type 0} (before now : ℕ) (result : Result T E) : Type 0 where
  pub later : before ≤ now
  pub succeeded : OnOk result (now ≡ before)
  pub failed : OnErr result (Rose before now)

-- a count never falls, and rises if the answer is this one and not otherwise
pub record RisesAt {R : Type 0} (before now : ℕ) (answer device : R) : Type 0 where
  pub later : before ≤ now
  pub failed : answer ≡ device → Rose before now
  pub others : answer ≢ device → now ≡ before
