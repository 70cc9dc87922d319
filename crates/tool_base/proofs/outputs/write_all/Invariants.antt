use Rattle.std.proofs.Common.{map, take}
use Rattle.tool_base.specs.OutputOf.{output_of}
use Rattle.tool_base.specs.Outputs.{IsLeft}
use Rattle.tool_base.specs.World.{IsBack, from_to}
use Rattle.tool_base.proofs.outputs.write_all.Given as goal

-- the files so far are written
abbrev pub invariant-outputs : goal.invariant-outputs
invariant-outputs g l =
    let state = g.S.Store.state in
    IsBack (state l.initial.store) (state l.store) × IsLeft (from_to (state l.initial.store) (state l.store)) (map output_of (take l.output-index l.outputs))
