use Rattle.std.proofs.Common.{◌+◌, ◌-◌, ◌≡◌, ◌≤◌}
use Rattle.tool_show.specs.Moments.{days_of_months, month_length}
use Rattle.tool_show.proofs.moment.month_of.Given as goal

abbrev pub invariant-loop-length : goal.invariant-loop-length
invariant-loop-length l = record {
  before : days_of_months l.year (l.month - 1) + l.rest ≡ l.day;
  length : l.length ≡ month_length l.year l.month;
  first : 1 ≤ l.month;
  last : l.month ≤ 12;
}

abbrev pub decreases-loop-length : goal.decreases-loop-length
decreases-loop-length l = 12 - l.month
