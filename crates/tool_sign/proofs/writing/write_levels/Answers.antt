use Rattle.std.proofs.Common.{◌≡◌, [], ◌∷◌, List, map, refl, subst}
use Rattle.tool_base.proofs.Runs.{unchanged_none}
use Rattle.tool_base.proofs.Writing.{names_of, none_left}
use Rattle.tool_base.specs.Endings.{ending}
use Rattle.tool_base.specs.OutputOf.{output_of}
use Rattle.tool_base.specs.Outputs.{IsLeft, Output, StopsAfter}
use Rattle.tool_base.specs.World.{from_to}
use Rattle.tool_sign.proofs.HssWhole.{two_differ}
use Rattle.tool_sign.specs.HssSign.{no_memory, part_written, written}
use Rattle.tool_sign.proofs.writing.write_levels.Goals as goal

pub returns-in_default-clause-ends : goal.returns-in_default-clause-ends
returns-in_default-clause-ends g c = no_memory (none_left _ _ (unchanged_none _))

pub write_all-requires-clause-differ : goal.write_all-requires-clause-differ
write_all-requires-clause-differ g c =
    let words = c.args.words.now in
    let names : map (λ (output : Output). output.name) (map output_of c.in-Ok.outputs) ≡ words.key_out.now ∷ words.signature_out.now ∷ [] = rw c.in-Ok.ensures refl in
    λ lives order. rw (← names_of output_of c.in-Ok.outputs, names) (two_differ _ _ c.requires.differ)

pub write_all-requires-clause-new : goal.write_all-requires-clause-new
write_all-requires-clause-new g c =
    let words = c.args.words.now in
    let names : map (λ (output : Output). output.name) (map output_of c.in-Ok.outputs) ≡ words.key_out.now ∷ words.signature_out.now ∷ [] = rw c.in-Ok.ensures refl in
    λ lives order. rw (← names_of output_of c.in-Ok.outputs, names) c.requires.new

pub returns-in-Ok-write_all-clause-ends : goal.returns-in-Ok-write_all-clause-ends
returns-in-Ok-write_all-clause-ends g c =
    let run = from_to (g.S.Store.state c.args.store.now) (g.S.Store.state c.write_all.new.store) in
    written (subst (IsLeft run) c.in-Ok.ensures (c.in-Ok-write_all.ensures.written c.args.store.now (unchanged_none _)))

pub returns-clause-ends : goal.returns-clause-ends
returns-clause-ends g c =
    let run = from_to (g.S.Store.state c.args.store.now) (g.S.Store.state c.write_all.new.store) in
    let stops = c.in-Err.ensures.refused c.args.store.now (unchanged_none _) in
    part_written stops.written _ stops.left
    (subst (λ (outputs : List Output). StopsAfter run outputs stops.written (ending c.in-Err.end)) c.in-Ok.ensures stops.cause)
