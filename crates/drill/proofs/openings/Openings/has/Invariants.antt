use Rattle.std.proofs.Common.{◌≢◌, ◌<◌, ℕ, get_or}
use Rattle.drill.specs.declared.openings.Opening.{Opening}
use Rattle.drill.proofs.openings.Openings.has.Given as goal

-- none of the openings before this one is the one being looked for
abbrev pub invariant-openings : goal.invariant-openings
invariant-openings l = (k : ℕ) (none : Opening) → k < l.i → get_or l.self.list.items k none ≢ l.opening
