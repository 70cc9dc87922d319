use Rattle.std.proofs.Common.{All, map, refl}
use Rattle.std.proofs.lemmas.Result.{err_from_is_err_and}
use Rattle.tool_base.specs.Endings.{ending}
use Rattle.tool_base.specs.OutputOf.{output_of}
use Rattle.tool_base.specs.Outputs.{FirstNotNew, IsNew}
use Rattle.tool_base.specs.World.{from_to}
use Rattle.tool_base.proofs.Runs.{onward_none, onward_on, part_of, unchanged_none, unchanged_on}
use Rattle.tool_base.proofs.Writing.{names_of}
use Rattle.tool_keys.specs.Steps.{given, not_new, refused}
use Rattle.tool_keys.specs.Told.{all_told, nothing_told}
use Rattle.tool_keys.proofs.Telling.{taken-status, unread-status}
use Rattle.tool_keys.proofs.deal.new_outputs.Goals as goal

pub returns-in_err-entropy-clause-refused : goal.returns-in_err-entropy-clause-refused
returns-in_err-entropy-clause-refused g c =
    let p = err_from_is_err_and c.from_residual.result c.from_residual.ensures.1 in
    λ first last part. rw (p.1, p.2) (refused _ (c.in_err-entropy.ensures.refused first last part))

pub returns-in_err-outputs-clause-refused : goal.returns-in_err-outputs-clause-refused
returns-in_err-outputs-clause-refused g c =
    let p = err_from_is_err_and c.from_residual-in_err-outputs.result c.from_residual-in_err-outputs.ensures.1 in
    λ first last part.
    rw (p.1, p.2) (given c.in_ok-entropy.entropy.items _ _ (c.in_ok-entropy.ensures.bytes first last part)
    (refused _ (rw c.deref.ensures.value at c.in_err-outputs.ensures.refused)))

pub returns-in_err-test_all_new-clause-refused : goal.returns-in_err-test_all_new-clause-refused
returns-in_err-test_all_new-clause-refused g c =
    let p = err_from_is_err_and c.from_residual-in_err-test_all_new.result c.from_residual-in_err-test_all_new.ensures.1 in
    let one = c.in_ok-entropy.ensures in
    let two = c.in_err-test_all_new.ensures in
    let outputs = c.in_ok-outputs.outputs.items in
    let made = rw c.deref.ensures.value at c.in_ok-outputs.ensures.dealt in
    λ first last part.
    let read = one.bytes first last (part_of _ _ _ _ part.earlier (onward_on _ _ _ two.unchanged.onward part.later)) in
    let fails = rw c.deref-2.ensures.value at (two.refused first last (part_of _ _ _ _ (unchanged_on _ _ _ part.earlier one.unchanged) part.later)) in
    let named : FirstNotNew (from_to (g.S.Store.state first) (g.S.Store.state last)) (map (λ output. output.name) (map output_of outputs)) _ =
    rw (names_of output_of outputs) fails in
    rw (p.1, p.2) (given c.in_ok-entropy.entropy.items _ _ read (given (map output_of outputs, ending c.in_ok-outputs.done) _ _ made (not_new _ named)))

pub returns-clause-ready : goal.returns-clause-ready
returns-clause-ready g c =
    let one = c.in_ok-entropy.ensures in
    let two = c.in_ok-test_all_new.ensures in
    let outputs = c.in_ok-outputs.outputs.items in
    λ first last part.
    let new : All (IsNew (from_to (g.S.Store.state first) (g.S.Store.state last))) (map (λ output. output.name) (map output_of outputs)) =
    rw (names_of output_of outputs) (rw c.deref-2.ensures.value at (two.new first last (part_of _ _ _ _ (unchanged_on _ _ _ part.earlier one.unchanged) part.later))) in
    record {
      entropy = c.in_ok-entropy.entropy.items;
      read = one.bytes first last (part_of _ _ _ _ part.earlier (onward_on _ _ _ two.unchanged.onward part.later));
      dealt = rw c.deref.ensures.value at c.in_ok-outputs.ensures.dealt;
      new = new;
    }

pub returns-in_err-test_all_new-clause-unchanged : goal.returns-in_err-test_all_new-clause-unchanged
returns-in_err-test_all_new-clause-unchanged g c = unchanged_on _ _ _ c.in_ok-entropy.ensures.unchanged c.in_err-test_all_new.ensures.unchanged

pub returns-clause-unchanged : goal.returns-clause-unchanged
returns-clause-unchanged g c = unchanged_on _ _ _ c.in_ok-entropy.ensures.unchanged c.in_ok-test_all_new.ensures.unchanged

pub returns-in_err-entropy-clause-told : goal.returns-in_err-entropy-clause-told
returns-in_err-entropy-clause-told g c =
    let p = err_from_is_err_and c.from_residual.result c.from_residual.ensures.1 in
    let unread = c.in_err-entropy.ensures.refused c.args.store.now c.read_file.new.store (part_of _ _ _ _ (unchanged_none _) (onward_none _)) in
    rw (p.1, p.2) (nothing_told (unread-status _ _ _ _ unread) refl)

pub returns-in_err-outputs-clause-told : goal.returns-in_err-outputs-clause-told
returns-in_err-outputs-clause-told g c =
    let p = err_from_is_err_and c.from_residual-in_err-outputs.result c.from_residual-in_err-outputs.ensures.1 in
    rw (p.1, p.2) c.in_err-outputs.ensures.told

pub returns-in_err-test_all_new-clause-told : goal.returns-in_err-test_all_new-clause-told
returns-in_err-test_all_new-clause-told g c =
    let p = err_from_is_err_and c.from_residual-in_err-test_all_new.result c.from_residual-in_err-test_all_new.ensures.1 in
    let taken = c.in_err-test_all_new.ensures.refused c.read_file.new.store c.test_all_new.new.store (part_of _ _ _ _ (unchanged_none _) (onward_none _)) in
    rw (p.1, p.2) (all_told (taken-status _ _ _ taken) c.in_ok-outputs.ensures.told)

pub returns-clause-told : goal.returns-clause-told
returns-clause-told g c = c.in_ok-outputs.ensures.told
