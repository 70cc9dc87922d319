-- Calls of the tool over objects that do not fail except because of their arguments.
use Rattle.std.specs.Prelude.{◌≤◌, ℕ, List, length, IsTrue}
use Rattle.stream_io.specs.Net.{NetState}
use Rattle.stream_io.specs.Store.{StoreState}
use Rattle.tool_base.specs.Ending.{line_of}
use Rattle.tool_base.specs.World.{Outside, OutputRun, TimeState, World}
use Rattle.tool_run.specs.ToolRun.{ToolRun}

-- what a call gets besides its output, in one state
abbrev pub outside_of : StoreState → NetState → TimeState → Outside
outside_of store net time = record { store = store; net = net; time = time }

-- from one state to another, with this output
abbrev pub world_of : Outside → Outside → OutputRun → World
world_of before after output = record { before = before; after = after; output = output }

-- Store and net tell their content, and none of their calls fails except because of its arguments; the same holds for
-- the output, which has room for the line that the call has to print.
pub record IsSteadyWorld {words : List (List ℕ)} {world : World} {status : ℕ} (run : ToolRun words world status)
    : Type 0 where
  pub store_told : IsTrue world.before.store.told
  pub store_steady : IsTrue world.before.store.steady
  pub net_told : IsTrue world.before.net.told
  pub net_steady : IsTrue world.before.net.steady
  pub output_steady : IsTrue world.output.steady
  pub room : length (line_of run.answered.shown) ≤ world.output.room
