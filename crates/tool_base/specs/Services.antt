-- How a service over ports ends.
use Rattle.std.specs.Prelude.{◌≡◌, ◌⊎◌, List, All, Result, Ok, Err}
use Rattle.memory.specs.declared.NoMemory.{NoMemory}
use Rattle.stream_io.specs.declared.totals.Totals.{Totals}
use Rattle.stream_io.specs.Net.{PortState, SomeUnaccepted}
use Rattle.tool_base.specs.Ending as ending
use Rattle.tool_base.specs.Ending.{Ending}

-- a port that did not fail to accept
abbrev pub HasAccepted : PortState → Type 0
HasAccepted port = port.accept_count ≡ 0

-- how a service over these ports ends, by what came of serving them
abbrev pub ServiceEnds : List PortState → Result Totals NoMemory → Ending → Type 0
ServiceEnds ports (Ok totals) end = (All HasAccepted ports × (end ≡ ending.Served totals.connections totals.frames))
    ⊎ (SomeUnaccepted ports × (end ≡ ending.NetFailed))
ServiceEnds ports (Err none) end = end ≡ ending.NoMemory
