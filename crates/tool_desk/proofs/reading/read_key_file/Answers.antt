use Rattle.std.proofs.lemmas.Result.{err_from_is_err_and}
use Rattle.lms_bytes.specs.FaultNumbers.{key_fault_number}
use Rattle.lms_bytes.specs.PublicKey.{public_bytes, public_fault}
use Rattle.tool_base.specs.Grammars.{not_read}
use Rattle.tool_base.specs.World.{from_to}
use Rattle.tool_desk.proofs.Grammars.{fault_told, read_as}
use Rattle.tool_desk.proofs.reading.read_key_file.Goals as goal

pub returns-in_err-bytes-clause-refused : goal.returns-in_err-bytes-clause-refused
returns-in_err-bytes-clause-refused g c =
    let p = err_from_is_err_and c.from_residual.result c.from_residual.ensures.1 in
    λ first last part. rw (p.1, p.2) (not_read _ (c.in_err-bytes.ensures.refused first last part))

pub returns-clause-refused : goal.returns-clause-refused
returns-clause-refused g c =
    λ first last part. fault_told public_fault key_fault_number _ _ c.deref.result.now c.in-Err.fault c.number.result _
    (rw c.deref.ensures.value (c.in_ok-bytes.ensures.bytes first last part)) c.in-Err.ensures.refused c.number.ensures c.unreadable.ensures

pub returns-in_err-bytes-clause-key : goal.returns-in_err-bytes-clause-key
returns-in_err-bytes-clause-key g c =
    let p = err_from_is_err_and c.from_residual.result c.from_residual.ensures.1 in
    λ first last part. rw p.1 tt

pub returns-in_err-bytes-clause-unchanged : goal.returns-in_err-bytes-clause-unchanged
returns-in_err-bytes-clause-unchanged g c = c.in_err-bytes.ensures.unchanged

pub returns-in-Ok-clause-key : goal.returns-in-Ok-clause-key
returns-in-Ok-clause-key g c =
    λ first last part. read_as (from_to (g.S.Store.state first) (g.S.Store.state last)) c.args.name.now c.deref.result.now (public_bytes c.in-Ok.key)
    (rw c.deref.ensures.value (c.in_ok-bytes.ensures.bytes first last part)) c.in-Ok.ensures.key

pub returns-in-Ok-clause-unchanged : goal.returns-in-Ok-clause-unchanged
returns-in-Ok-clause-unchanged g c = c.in_ok-bytes.ensures.unchanged

pub returns-clause-unchanged : goal.returns-clause-unchanged
returns-clause-unchanged g c = c.in_ok-bytes.ensures.unchanged
