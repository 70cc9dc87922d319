use Rattle.std.proofs.Common.{ℕ, List, ◌≡◌, ◌≢◌, ◌<◌, [], All, length, get_or, string_bytes, sym, ap, arith, ◌∙◌, map, take}
use Rattle.std.proofs.lemmas.List.{get_or-map, length-map, take-map, take_all}
use Rattle.std.proofs.lemmas.List.Elements.{All-get_or}
use Rattle.std.proofs.lemmas.Result.{err_from_is_err_and}
use Rattle.tool_base.specs.OutputOf.{output_of}
use Rattle.tool_base.specs.Outputs.{AreDifferent, IsNew}
use Rattle.tool_base.specs.declared.outputs.Output.{Output}
use Rattle.tool_base.specs.World.{from_to}
use Rattle.tool_base.proofs.Names.{before_differ}
use Rattle.tool_base.proofs.Runs.{back_unchanged, back_same, back_written, unchanged_none}
use Rattle.tool_base.proofs.Writing.{left_more, left_part, left_same, names_of, none_left, stopped_part, stops_after, stops_behind}
use Rattle.tool_base.proofs.outputs.write_all.Goals as goal

pub outputs-init : goal.outputs-init
outputs-init g c = (back_unchanged _ _ (unchanged_none _), none_left _ _ (unchanged_none _))

-- the names so far are others than the one to come
earlier_differ : (outputs : List Output) (i : ℕ) (output : Output) → i < length outputs → output ≡ get_or outputs i output
    → AreDifferent (map (λ output. string_bytes output.name) outputs)
    → All (λ other. other ≢ string_bytes output.name) (map (λ output. output.name) (map output_of (take i outputs)))
earlier_differ outputs i output h e differ =
    let name = λ (output : Output). string_bytes output.name in
    let size : i < length (map name outputs) = omega (arith, h, length-map outputs name) in
    let own : get_or (map name outputs) i [] ≡ string_bytes output.name = get_or-map name outputs i output [] h ∙ ap name (sym e) in
    rw (names_of output_of (take i outputs), ← own, ← take-map) (before_differ _ i size differ)

pub returns-in_err-write_output-clause-refused : goal.returns-in_err-write_output-clause-refused
returns-in_err-write_output-clause-refused g c =
    let p = err_from_is_err_and c.from_residual.result c.from_residual.ensures.1 in
    let state = g.S.Store.state in
    let inv = c.outputs.invariant in
    let step = c.in_err-write_output.ensures in
    let outputs = c.args.outputs.now in
    let i = c.outputs.output-index in
    let output = c.output-item.result in
    let h = c.outputs-test.true in
    let name = λ (output : Output). string_bytes output.name in
    let size : i < length (map name outputs) = omega (arith, h, length-map outputs name) in
    let own : get_or (map name outputs) i [] ≡ string_bytes output.name = get_or-map name outputs i output [] h ∙ ap name (sym c.output-item.is) in
    let new : IsNew (from_to (state c.args.store.now) (state c.args.store.now)) (string_bytes output.name) =
    rw own at (All-get_or (IsNew (from_to (state c.args.store.now) (state c.args.store.now))) (map name outputs) i [] size c.requires.new) in
    let left = left_same _ _ _ inv.0.onward.told step.unchanged step.onward _ inv.1 in
    λ first unchanged.
    rw (p.1, p.2) (stopped_part _ _ _ unchanged _ _ (stops_after _ output_of outputs i output _ h c.output-item.is left
    (stops_behind _ _ _ _ inv.0.onward (λ name told. inv.0.out told name) inv.1 _ _ new (earlier_differ outputs i output h c.output-item.is c.requires.differ) step.refused)))

pub returns-in_err-write_output-clause-back : goal.returns-in_err-write_output-clause-back
returns-in_err-write_output-clause-back g c =
    let step = c.in_err-write_output.ensures in
    back_same _ _ _ c.outputs.invariant.0 step.unchanged step.onward

pub outputs-preserved : goal.outputs-preserved
outputs-preserved g c =
    let inv = c.outputs.invariant in
    let step = c.in_ok-write_output.ensures in
    let output = c.output-item.result in (
      back_written _ _ _ _ _ _ inv.0 step.written step.onward,
      left_more _ _ _ output_of c.args.outputs.now c.outputs.output-index output c.outputs-test.true c.output-item.is inv.0.onward.told
          (earlier_differ c.args.outputs.now c.outputs.output-index output c.outputs-test.true c.output-item.is c.requires.differ) inv.1 step.written step.onward,
    )

pub returns-clause-written : goal.returns-clause-written
returns-clause-written g c =
    let all = take_all c.outputs.output-index c.args.outputs.now (let end = c.outputs-test.false in omega arith) in
    λ first unchanged. left_part _ _ _ unchanged _ (rw all at c.outputs.invariant.1)
