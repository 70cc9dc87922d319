use Rattle.std.proofs.Common.{List, ℕ, [], ◌∷◌, subst}
use Rattle.tool_base.proofs.Runs.{unchanged_none}
use Rattle.tool_base.proofs.Writing.{none_left}
use Rattle.tool_base.specs.Outputs.{IsLeft, IsNotWritten, no_memory_to_write}
use Rattle.tool_base.specs.Endings.{ending}
use Rattle.tool_base.specs.World.{from_to}
use Rattle.tool_sign.proofs.Writes.{stops_first}
use Rattle.tool_sign.specs.Writes.{not_written, one_output, written}
use Rattle.tool_sign.proofs.command.write_signature.Goals as goal

pub returns-in_default-clause-ends : goal.returns-in_default-clause-ends
returns-in_default-clause-ends g c = not_written _ (none_left _ _ (unchanged_none _)) no_memory_to_write

pub returns-in-Ok-write_all-clause-ends : goal.returns-in-Ok-write_all-clause-ends
returns-in-Ok-write_all-clause-ends g c =
    let run = from_to (g.S.Store.state c.args.store.now) (g.S.Store.state c.write_all.new.store) in
    written (subst (λ (name : List ℕ). IsLeft run (one_output name c.args.signed.bytes.items ∷ [])) c.in-Ok.ensures.ok
    (c.in-Ok-write_all.ensures.written c.args.store.now (unchanged_none _)))

pub returns-clause-ends : goal.returns-clause-ends
returns-clause-ends g c =
    let run = from_to (g.S.Store.state c.args.store.now) (g.S.Store.state c.write_all.new.store) in
    let stops = stops_first _ _ _ _ (c.in-Err.ensures.refused c.args.store.now (unchanged_none _)) in
    not_written _ stops.0 (subst (λ (name : List ℕ). IsNotWritten run [] name (ending c.in-Err.end)) c.in-Ok.ensures.ok stops.1)
