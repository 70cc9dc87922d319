-- A run over objects in memory for which the premises of a law hold together.
use Rattle.std.specs.Prelude.{◌≡◌, ℕ, List, map, Some}
use Rattle.std.specs.declared.alloc.Global.{Global}
use Rattle.std.specs.declared.string.String.{String}
use Rattle.std.specs.declared.vec.Vec.{Vec}
use Rattle.stream_memory.specs.MemStore.{Begun, file_disk}
use Rattle.tool_base.specs.World.{World}
use Rattle.tool_run.specs.Worlds.{IsSteadyWorld}
use Rattle.tool_run.specs.ToolRun.{ToolRun}
use Rattle.tool_words.specs.Words.{Row, command_of}

-- A call with a command's words for which the premises of `steady` hold, over a store that was just made of these
-- files.
pub record SteadyRun (words : List (List ℕ)) (files : List (String Global × Vec ℕ Global)) (world : World)
    (status : ℕ) : Type 0 where
  pub row : Row
  pub is_command : command_of words ≡ Some row
  pub begun : Begun (map file_disk files) world.before.store
  pub run : ToolRun words world status
  pub steady : IsSteadyWorld run
