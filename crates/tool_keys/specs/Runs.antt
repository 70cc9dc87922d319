-- How `deal` ends, by whether its words say `large`.
use Rattle.std.specs.Prelude.{Bool, true, false}
use Rattle.tool_base.specs.Ending.{Ending}
use Rattle.tool_base.specs.Outputs.{EndsWith}
use Rattle.tool_base.specs.World.{StoreRun}
use Rattle.tool_keys.specs.Deal.{DealEnds}
use Rattle.tool_keys.specs.Large.{EndsBeside, LargeEnds}
use Rattle.tool_words.specs.Words.{DealWords}

-- internal: the same by the answer
abbrev pub DealRunBy : Bool → DealWords → StoreRun → Ending → Type 0
DealRunBy true words store = EndsBeside (LargeEnds store words) store
DealRunBy false words store = EndsWith (DealEnds store words) store

abbrev pub DealRun : DealWords → StoreRun → Ending → Type 0
DealRun words = DealRunBy words.large words
