-- How `drill` ends.
use Rattle.std.specs.Prelude.{ℕ}
use Rattle.drill.specs.Summaries.{IsSummary}
use Rattle.drill_schedule.specs.declared.summary.Summary.{Summary}
use Rattle.tool_base.specs.Ending as ending
use Rattle.tool_base.specs.Ending.{Ending}

-- `sessions` sessions were run under `events` events of this number's schedule
pub data DrillEnds (number sessions events : ℕ) : Ending → Type 0 where
  no_memory : DrillEnds number sessions events ending.NoMemory
  drilled : (summary : Summary) → IsSummary number sessions events summary
      → DrillEnds number sessions events (ending.Drilled summary)
