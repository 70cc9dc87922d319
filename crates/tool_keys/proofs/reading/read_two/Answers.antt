use Rattle.std.proofs.lemmas.Result.{err_from_is_err_and}
use Rattle.tool_base.proofs.Runs.{unchanged_on, onward_on, part_of}
use Rattle.tool_keys.specs.Steps.{first_fails, second_fails}
use Rattle.tool_keys.proofs.reading.read_two.Goals as goal

pub returns-in_err-first-clause-refused : goal.returns-in_err-first-clause-refused
returns-in_err-first-clause-refused g c =
    let p = err_from_is_err_and c.from_residual.result c.from_residual.ensures.1 in
    λ first last part. rw (p.1, p.2) (first_fails _ (c.in_err-first.ensures.refused first last part))

pub returns-in_err-second-clause-refused : goal.returns-in_err-second-clause-refused
returns-in_err-second-clause-refused g c =
    let p = err_from_is_err_and c.from_residual-in_err-second.result c.from_residual-in_err-second.ensures.1 in
    let one = c.in_ok-first.ensures in
    let two = c.in_err-second.ensures in
    λ first last part.
    let read = one.bytes first last (part_of _ _ _ _ part.earlier (onward_on _ _ _ two.unchanged.onward part.later)) in
    rw (p.1, p.2) (second_fails c.in_ok-first.first.items _ read (two.refused first last (part_of _ _ _ _ (unchanged_on _ _ _ part.earlier one.unchanged) part.later)))

pub returns-clause-bytes : goal.returns-clause-bytes
returns-clause-bytes g c =
    let one = c.in_ok-first.ensures in
    let two = c.in_ok-second.ensures in
    λ first last part. record {
      first = one.bytes first last (part_of _ _ _ _ part.earlier (onward_on _ _ _ two.unchanged.onward part.later));
      second = two.bytes first last (part_of _ _ _ _ (unchanged_on _ _ _ part.earlier one.unchanged) part.later);
    }

pub returns-in_err-second-clause-unchanged : goal.returns-in_err-second-clause-unchanged
returns-in_err-second-clause-unchanged g c = unchanged_on _ _ _ c.in_ok-first.ensures.unchanged c.in_err-second.ensures.unchanged

pub returns-clause-unchanged : goal.returns-clause-unchanged
returns-clause-unchanged g c = unchanged_on _ _ _ c.in_ok-first.ensures.unchanged c.in_ok-second.ensures.unchanged
