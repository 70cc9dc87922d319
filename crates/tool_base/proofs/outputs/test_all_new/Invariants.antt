use Rattle.std.proofs.Common.{All, map, take, string_bytes}
use Rattle.tool_base.specs.Outputs.{IsNew}
use Rattle.tool_base.specs.World.{IsUnchanged, from_to}
use Rattle.tool_base.proofs.outputs.test_all_new.Given as goal

-- the names so far are new
abbrev pub invariant-outputs : goal.invariant-outputs
invariant-outputs g l =
    let state = g.S.Store.state in
    IsUnchanged (state l.initial.store) (state l.store)
    × All (IsNew (from_to (state l.initial.store) (state l.initial.store))) (map (λ output. string_bytes output.name) (take l.output-index l.outputs))
