use Rattle.std.proofs.Common.{◌+◌, ◌≡◌}
use Rattle.tool_show.specs.Moments.{days_of_years, year_length}
use Rattle.tool_show.proofs.moment.year_of.Given as goal

abbrev pub invariant-loop-length : goal.invariant-loop-length
invariant-loop-length l = record {
  before : days_of_years l.count + l.rest ≡ l.days;
  length : l.length ≡ year_length (1970 + l.count);
}

abbrev pub decreases-loop-length : goal.decreases-loop-length
decreases-loop-length l = l.rest
