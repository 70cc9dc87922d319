use Rattle.std.proofs.Common.{◌≢◌, ℕ, ◌<◌, ◌≤◌}
use Rattle.dealer.specs.Entropy.{trustee_key}
use Rattle.dealer.proofs.checks.first_alike.Given as goal

abbrev pub invariant-first : goal.invariant-first
invariant-first l = (t u : ℕ) → 1 ≤ t → t < l.t → t < u → u ≤ l.trustees → trustee_key l.entropy t ≢ trustee_key l.entropy u
