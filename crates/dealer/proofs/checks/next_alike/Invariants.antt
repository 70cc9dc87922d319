use Rattle.std.proofs.Common.{◌≢◌, ℕ, ◌<◌}
use Rattle.dealer.specs.Entropy.{trustee_key}
use Rattle.dealer.proofs.checks.next_alike.Given as goal

abbrev pub invariant-others : goal.invariant-others
invariant-others l = (other : ℕ) → l.t < other → other < l.u → trustee_key l.entropy l.t ≢ trustee_key l.entropy other
